-- Lists that are merged by an order.
use Rattle.std.specs.Prelude.{ℕ, zero, suc, ◌+◌, List, [], ◌∷◌, Bool, Option, Some, None, if◌then◌else◌, length, drop, flat_map}

-- the better one of what was found and the first element of list k: what was found, if neither
-- comes before the other
abbrev pub better : {A : Type 0} → (A → A → Bool) → Option (ℕ × A) → ℕ → A → Option (ℕ × A)
better lt None k x = Some (k, x)
better lt (Some p) k x = if lt x p.1 then Some (k, x) else Some p

-- the least of the first elements of some lists after what was found, and its list's number
unfoldable pub least_from : {A : Type 0} → (A → A → Bool) → Option (ℕ × A) → ℕ → List (List A) → Option (ℕ × A)
least_from lt found k [] = found
least_from lt found k ([] ∷ ls) = least_from lt found (k + 1) ls
least_from lt found k ((x ∷ xs) ∷ ls) = least_from lt (better lt found k x) (k + 1) ls

-- the lists without the first element of list k
unfoldable pub without : {A : Type 0} → List (List A) → ℕ → List (List A)
without [] k = []
without (xs ∷ ls) zero = drop 1 xs ∷ ls
without (xs ∷ ls) (suc k) = xs ∷ without ls k

-- an element that was found, and then those of the lists without it
abbrev pub found_then : {A : Type 0} → Option (ℕ × A) → (ℕ → List A) → List A
found_then None rest = []
found_then (Some p) rest = p.1 ∷ rest p.0

-- the first n elements obtained from some lists by repeatedly taking the least of the first ones
unfoldable pub merged_few : {A : Type 0} → (A → A → Bool) → ℕ → List (List A) → List A
merged_few lt zero ls = []
merged_few lt (suc n) ls = found_then (least_from lt None 0 ls) (λ k. merged_few lt n (without ls k))

-- all elements of some lists, list by list
abbrev pub concat : {A : Type 0} → List (List A) → List A
concat ls = flat_map (λ xs. xs) ls

-- the elements of some lists: repeatedly the least of the first ones
unfoldable pub merged : {A : Type 0} → (A → A → Bool) → List (List A) → List A
merged lt ls = merged_few lt (length (concat ls)) ls
