-- What holds of each of some lists.
use Rattle.std.proofs.Common.{ℕ, zero, suc, Bool, true, false, cond, List, [], ◌∷◌, ◌++◌, map, Option, Some, None}
use Rattle.std.specs.Prelude.{slice_get}
use Rattle.std.specs.List.{filter, flat_map}
use Rattle.std.specs.Option.{option_to_list, option_or}
use Rattle.fault_places.specs.Common.{IfAny, Each}

pub each_append : {A : Type 0} (Q : A → Type 0) (xs ys : List A) → Each Q xs → Each Q ys → Each Q (xs ++ ys)
each_append Q [] ys h k = k
each_append Q (x ∷ xs) ys h k = (h.0, each_append Q xs ys h.1 k)

-- of the one after a front
pub each_after : {A : Type 0} (Q : A → Type 0) (xs : List A) (x : A) (ys : List A) → Each Q (xs ++ (x ∷ ys)) → Q x
each_after Q [] x ys h = h.0
each_after Q (z ∷ xs) x ys h = each_after Q xs x ys h.1

pub each_map : {A B : Type 0} (Q : B → Type 0) (f : A → B) (xs : List A) → Each (λ (x : A). Q (f x)) xs → Each Q (map f xs)
each_map Q f [] h = tt
each_map Q f (x ∷ xs) h = (h.0, each_map Q f xs h.1)

pub each_flat : {A B : Type 0} (Q : B → Type 0) (f : A → List B) (xs : List A) → ((x : A) → Each Q (f x)) → Each Q (flat_map f xs)
each_flat Q f [] h = tt
each_flat Q f (x ∷ xs) h = each_append Q (f x) (flat_map f xs) (h x) (each_flat Q f xs h)

-- of all rows, one after another
pub each_row : {A : Type 0} (Q : A → Type 0) (rows : List (List A)) → Each (Each Q) rows → Each Q (flat_map (λ (row : List A). row) rows)
each_row Q [] h = tt
each_row {A = A} Q (row ∷ rows) h = each_append Q row (flat_map (λ (r : List A). r) rows) h.0 (each_row Q rows h.1)

pub each_filter : {A : Type 0} (Q : A → Type 0) (p : A → Bool) (xs : List A) → Each Q xs → Each Q (filter p xs)
each_filter Q p [] h = tt
each_filter Q p (x ∷ xs) h = go (p x) (each_filter Q p xs h.1)
  where
    go : (b : Bool) → Each Q (filter p xs) → Each Q (cond b (x ∷ filter p xs) (filter p xs))
    go true rest = (h.0, rest)
    go false rest = rest

-- of the one of a number
pub each_get : {A : Type 0} (Q : A → Type 0) (xs : List A) (k : ℕ) → Each Q xs → IfAny Q (slice_get xs k)
each_get Q [] k h = tt
each_get Q (x ∷ xs) zero h = h.0
each_get Q (x ∷ xs) (suc k) h = each_get Q xs k h.1

pub any_list : {A : Type 0} (Q : A → Type 0) (o : Option A) → IfAny Q o → Each Q (option_to_list o)
any_list Q None h = tt
any_list Q (Some x) h = (h, tt)

pub any_or : {A : Type 0} (Q : A → Type 0) (o u : Option A) → IfAny Q o → IfAny Q u → IfAny Q (option_or o u)
any_or Q None u h k = k
any_or Q (Some x) u h k = h
