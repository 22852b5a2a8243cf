-- How many elements of a list pass a test.
use Rattle.std.proofs.Common.{◌≡◌, ◌≤◌, ◌+◌, List, [], ◌∷◌, Bool, true, false, cond, count_by, refl, sym, ap, ◌∙◌, arith, inl, inr, ⊎_elim}
use Rattle.std.proofs.lemmas.List.Sums.{sum_by-cons}
use Rattle.list_laws.proofs.Members.{In}

pub count_cons : {A : Type 0} (p : A → Bool) (x : A) (xs : List A) → count_by p (x ∷ xs) ≡ cond (p x) 1 0 + count_by p xs
count_cons p x xs = sum_by-cons (λ y. cond (p y) 1 0) x xs

-- an element that passes
pub count_yes : {A : Type 0} (p : A → Bool) (x : A) (xs : List A) → p x ≡ true → count_by p (x ∷ xs) ≡ 1 + count_by p xs
count_yes p x xs h = count_cons p x xs ∙ ap (λ b. cond b 1 0 + count_by p xs) h

-- an element that doesn't
pub count_no : {A : Type 0} (p : A → Bool) (x : A) (xs : List A) → p x ≡ false → count_by p (x ∷ xs) ≡ count_by p xs
count_no p x xs h = let e = count_cons p x xs ∙ ap (λ b. cond b 1 0 + count_by p xs) h in omega (arith, e)

-- if no element passes
pub count_none : {A : Type 0} (p : A → Bool) (xs : List A) → ((x : A) → In x xs → p x ≡ false) → count_by p xs ≡ 0
count_none p [] h = refl
count_none p (x ∷ xs) h = count_no p x xs (h x (inl refl)) ∙ count_none p xs (λ y i. h y (inr i))

-- if one does
pub count_some : {A : Type 0} (p : A → Bool) (xs : List A) (x : A) → In x xs → p x ≡ true → 1 ≤ count_by p xs
count_some p [] x i h = absurd i
count_some p (y ∷ xs) x i h =
    ⊎_elim {C = 1 ≤ count_by p (y ∷ xs)} (λ (e : x ≡ y). let k = count_yes p y xs (ap p (sym e) ∙ h) in omega (arith, k))
    (λ j. let k = count_cons p y xs in omega (arith, k, count_some p xs x j h)) i
