-- Lists turned round, lists seen from their end, and what stands past the end of a list.
use Rattle.std.proofs.Common.{ℕ, zero, suc, ◌≡◌, ◌≤◌, List, [], ◌∷◌, ◌++◌, None, length, get_or, refl, sym, ap, arith, ◌∙◌, inl, inr, ⊎_elim, append_assoc}
use Rattle.std.specs.Prelude.{slice_get}
use Rattle.std.proofs.lemmas.List.{append-nil}
use Rattle.list_laws.proofs.Members.{In, in_either, in_left, in_right}

-- a list backwards
abbrev pub back : {A : Type 0} → List A → List A
back [] = []
back (x ∷ xs) = back xs ++ x ∷ []

pub back_append : {A : Type 0} (xs ys : List A) → back (xs ++ ys) ≡ back ys ++ back xs
back_append [] ys = sym (append-nil (back ys))
back_append (x ∷ xs) ys = ap (λ r. r ++ x ∷ []) (back_append xs ys) ∙ append_assoc (back ys) (back xs) (x ∷ [])

pub back_snoc : {A : Type 0} (xs : List A) (x : A) → back (xs ++ x ∷ []) ≡ x ∷ back xs
back_snoc [] x = refl
back_snoc (y ∷ xs) x = ap (λ r. r ++ y ∷ []) (back_snoc xs x)

-- a list seen from its end
pub data Snoc {A : Type 0} : List A → Type 0 where
  empty : Snoc []
  snoc : (xs : List A) (x : A) → Snoc xs → Snoc (xs ++ x ∷ [])

one_more : {A : Type 0} (x : A) (xs : List A) → Snoc xs → Snoc (x ∷ xs)
one_more x xs empty = snoc [] x empty
one_more x xs (snoc ys y s) = snoc (x ∷ ys) y (one_more x ys s)

pub snocs : {A : Type 0} (xs : List A) → Snoc xs
snocs [] = empty
snocs (x ∷ xs) = one_more x xs (snocs xs)

pub in_back : {A : Type 0} (xs : List A) (x : A) → In x (back xs) → In x xs
in_back [] x i = absurd i
in_back (y ∷ xs) x i = ⊎_elim (λ j. inr (in_back xs x j)) (λ j. ⊎_elim (λ e. inl e) (λ k. absurd k) j) (in_either (back xs) (y ∷ []) x i)

pub back_in : {A : Type 0} (xs : List A) (x : A) → In x xs → In x (back xs)
back_in [] x i = absurd i
back_in (y ∷ xs) x i = ⊎_elim (λ e. in_right (back xs) (y ∷ []) x (inl e)) (λ j. in_left (back xs) (y ∷ []) x (back_in xs x j)) i

-- past the end of a list
pub past_end : {A : Type 0} (xs : List A) (k : ℕ) (d : A) → length xs ≤ k → get_or xs k d ≡ d
past_end [] k d le = refl
past_end (x ∷ xs) zero d le = absurd (omega (arith, le))
past_end (x ∷ xs) (suc k) d le = past_end xs k d (omega (arith, le))

pub none_past : {A : Type 0} (xs : List A) (k : ℕ) → slice_get xs k ≡ None → length xs ≤ k
none_past [] k e = omega arith
none_past (x ∷ xs) zero e = absurd (cc (e))
none_past (x ∷ xs) (suc k) e = omega (arith, none_past xs k e)
