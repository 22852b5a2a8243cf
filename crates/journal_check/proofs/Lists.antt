-- Lists in order, and how many of their elements pass a test.
use Rattle.std.proofs.Common.{ℕ, zero, suc, ◌≡◌, ◌≤◌, ◌<◌, ◌+◌, List, [], ◌∷◌, All, AllPairs, refl, sym, ap, subst, arith, ◌⊎◌, inl, inr, ⊎_elim, Bool, true, false, ◌&&◌, ◌∙◌, cond, length, get_or, count_by}
use Rattle.std.specs.Prelude.{filter}
use Rattle.std.specs.List.{AllAdjacentBelow}
use Rattle.list_laws.proofs.Counts.{count_some, count_cons, count_yes, count_no}
use Rattle.list_laws.proofs.Members.{In, InOrder, get_in}

pub all_in : {A : Type 0} (P : A → Type 0) (xs : List A) → All P xs → (x : A) → In x xs → P x
all_in P xs all x i = let r = get_in xs x x i in subst P r.2 (all r.0 x r.1)

-- a relation that chains and holds of neighbours holds of all pairs
pub adjacent_pairs : {A : Type 0} (R : A → A → Type 0) → ((x y z : A) → R x y → R y z → R x z) → (xs : List A) → AllAdjacentBelow R xs (length xs) → AllPairs R xs
adjacent_pairs {A = A} R chain xs h i j d lt within = go j lt within
  where
    next : (j : ℕ) → i < suc j → (i ≡ j) ⊎ (i < j)
    next j lt = grind arith

    go : (j : ℕ) → i < j → j < length xs → R (get_or xs i d) (get_or xs j d)
    go zero lt within = absurd (omega (arith, lt))
    go (suc j) lt within =
        let more : suc j ≡ j + 1 = omega arith in
        let last : R (get_or xs j d) (get_or xs (suc j) d) = subst (λ k. R (get_or xs j d) (get_or xs k d)) (sym more) (h j d (omega (arith, within))) in
        ⊎_elim {C = R (get_or xs i d) (get_or xs (suc j) d)} (λ (e : i ≡ j). subst (λ k. R (get_or xs k d) (get_or xs (suc j) d)) (sym e) last)
        (λ (l : i < j). chain (get_or xs i d) (get_or xs j d) (get_or xs (suc j) d) (go j l (omega (arith, within))) last) (next j lt)

-- two elements are one, or in order in one way
pub order_two : {A : Type 0} (R : A → A → Type 0) (xs : List A) (x y : A) → InOrder R xs → In x xs → In y xs → (x ≡ y) ⊎ (R x y ⊎ R y x)
order_two R [] x y o i j = absurd i
order_two {A = A} R (z ∷ xs) x y o i j =
    ⊎_elim {C = (x ≡ y) ⊎ (R x y ⊎ R y x)}
    (λ (e : x ≡ z). ⊎_elim {C = (x ≡ y) ⊎ (R x y ⊎ R y x)} (λ (f : y ≡ z). inl (e ∙ sym f)) (λ l. inr (inl (subst (λ q. R q y) (sym e) (o.0 y l)))) j)
    (λ k. ⊎_elim {C = (x ≡ y) ⊎ (R x y ⊎ R y x)} (λ (f : y ≡ z). inr (inr (subst (λ q. R q x) (sym f) (o.0 x k)))) (λ l. order_two R xs x y o.1 k l) j) i

pub order_with : {A : Type 0} (R S : A → A → Type 0) (xs : List A) → ((x y : A) → In x xs → In y xs → R x y → S x y) → InOrder R xs → InOrder S xs
order_with R S [] h o = tt
order_with R S (x ∷ xs) h o = ((λ y i. h x y (inl refl) (inr i) (o.0 y i)), order_with R S xs (λ a b i j. h a b (inr i) (inr j)) o.1)

pub order_both : {A : Type 0} (R S : A → A → Type 0) (xs : List A) → InOrder R xs → InOrder S xs → InOrder (λ x y. R x y × S x y) xs
order_both R S [] o p = tt
order_both R S (x ∷ xs) o p = ((λ y i. (o.0 y i, p.0 y i)), order_both R S xs o.1 p.1)

-- counts
pub count_filter : {A : Type 0} (p q : A → Bool) (xs : List A) → count_by (λ x. p x && q x) xs ≡ count_by q (filter p xs)
count_filter p q [] = refl
count_filter {A = A} p q (x ∷ xs) = go (p x) refl (count_filter p q xs)
  where
    go : (b : Bool) → p x ≡ b → count_by (λ y. p y && q y) xs ≡ count_by q (filter p xs) → count_by (λ y. p y && q y) (x ∷ xs) ≡ count_by q (cond b (x ∷ filter p xs) (filter p xs))
    go true is rec = count_cons (λ y. p y && q y) x xs ∙ ap (λ b. cond (b && q x) 1 0 + count_by (λ y. p y && q y) xs) is ∙ ap (λ n. cond (q x) 1 0 + n) rec ∙ sym (count_cons q x (filter p xs))
    go false is rec = count_no (λ y. p y && q y) x xs (ap (λ b. b && q x) is) ∙ rec

pub count_less : {A : Type 0} (p : A → Bool) (x : A) (xs : List A) → count_by p xs ≤ count_by p (x ∷ xs)
count_less p x xs = let k = count_cons p x xs in omega (arith, k)

pub count_two : {A : Type 0} (p : A → Bool) (x : A) (xs : List A) (y : A) → In y xs → p x ≡ true → p y ≡ true → 2 ≤ count_by p (x ∷ xs)
count_two p x xs y i h g = let k = count_yes p x xs h in omega (arith, k, count_some p xs y i g)
