-- The slots of a list: what stands at a place, and what does when one is changed or some are left out.
use Rattle.std.proofs.Common.{ℕ, zero, suc, ◌≡◌, ◌≢◌, ◌+◌, ◌<◌, ◌≤◌, List, [], ◌∷◌, ◌++◌, length, take, drop, slice_get, slice_set, Some, refl, ap, ◌∙◌, append-nil, take_all, arith}
use Rattle.std.proofs.lemmas.List.{drop_all}

-- a place within a list has a value
pub get_inside : {A : Type 0} (xs : List A) (k : ℕ) → k < length xs → (x : A) × (slice_get xs k ≡ Some x)
get_inside [] k lt = absurd (omega (arith, lt))
get_inside (x ∷ xs) zero lt = (x, refl)
get_inside (x ∷ xs) (suc k) lt = get_inside xs k (omega (arith, lt))

-- a value behind the first p
pub get_drop : {A : Type 0} (p k : ℕ) (xs : List A) → slice_get (drop p xs) k ≡ slice_get xs (p + k)
get_drop zero k xs = let e : k ≡ 0 + k = omega arith in ap (slice_get xs) e
get_drop (suc p) k [] = refl
get_drop (suc p) k (x ∷ xs) = let e : suc (p + k) ≡ suc p + k = omega arith in get_drop p k xs ∙ ap (slice_get (x ∷ xs)) e

-- a value among the first n
pub get_take : {A : Type 0} (k n : ℕ) (xs : List A) → k < n → slice_get (take n xs) k ≡ slice_get xs k
get_take k zero xs lt = absurd (omega (arith, lt))
get_take k (suc n) [] lt = refl
get_take zero (suc n) (x ∷ xs) lt = refl
get_take (suc k) (suc n) (x ∷ xs) lt = get_take k n xs (omega (arith, lt))

-- a list that drops to nothing is no longer than what is dropped
pub drop_none : {A : Type 0} (n : ℕ) (xs : List A) → drop n xs ≡ [] → length xs ≤ n
drop_none zero [] h = omega arith
drop_none zero (x ∷ xs) h = absurd (cc h)
drop_none (suc n) [] h = omega arith
drop_none (suc n) (x ∷ xs) h = let le = drop_none n xs h in omega (arith, le)

-- a change of a value leaves the length
pub length_set : {A : Type 0} (xs : List A) (p : ℕ) (y : A) → length (slice_set xs p y) ≡ length xs
length_set [] p y = refl
length_set (x ∷ xs) zero y = refl
length_set (x ∷ xs) (suc p) y = ap suc (length_set xs p y)

-- the value that was set
pub get_set_same : {A : Type 0} (xs : List A) (k : ℕ) (y : A) → k < length xs → slice_get (slice_set xs k y) k ≡ Some y
get_set_same [] k y lt = absurd (omega (arith, lt))
get_set_same (x ∷ xs) zero y lt = refl
get_set_same (x ∷ xs) (suc k) y lt = get_set_same xs k y (omega (arith, lt))

-- the other values
pub get_set_other : {A : Type 0} (xs : List A) (k j : ℕ) (y : A) → j ≢ k → slice_get (slice_set xs k y) j ≡ slice_get xs j
get_set_other [] k j y ne = refl
get_set_other (x ∷ xs) zero zero y ne = absurd (ne refl)
get_set_other (x ∷ xs) zero (suc j) y ne = refl
get_set_other (x ∷ xs) (suc k) zero y ne = refl
get_set_other (x ∷ xs) (suc k) (suc j) y ne = get_set_other xs k j y (λ e. ne (ap suc e))

-- what is written over a whole list is all
pub take_over : {A : Type 0} (n : ℕ) (new old : List A) → length new ≡ length old → n ≡ length old → take n (new ++ drop (length new) old) ≡ new
take_over n new old same count =
    ap (λ xs. take n (new ++ xs)) (drop_all (length new) old (omega (arith, same))) ∙ (ap (take n) (append-nil new) ∙ take_all n new (omega (arith, same, count)))
