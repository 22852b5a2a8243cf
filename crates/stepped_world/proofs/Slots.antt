-- A list with one element changed.
use Rattle.std.proofs.Common.{◌≡◌, ◌≢◌, ℕ, zero, suc, ◌+◌, ◌<◌, List, [], ◌∷◌, length, map, refl, sym, ap, ◌∙◌, subst, arith, ⊎_elim, Some}
use Rattle.std.specs.Prelude.{slice_get, slice_set}
use Rattle.std.specs.List.{range_with_len}
use Rattle.tile_core.specs.Values.{TileValue, TileWith}
use Rattle.std.proofs.lemmas.Option.{same_Some}
use Rattle.std.proofs.lemmas.Bool.{cases_eq}
use Rattle.list_laws.proofs.Slots.{get_set_same, get_set_other}

-- what holds of the new element, and of the others as they were, holds of each
pub set_each : {A : Type 0} (P : ℕ → A → Type 0) (xs : List A) (k : ℕ) (y : A) → k < length xs → P k y → ((j : ℕ) (z : A) → j ≢ k → slice_get xs j ≡ Some z → P j z) → (j : ℕ) (z : A) → slice_get (slice_set xs k y) j ≡ Some z → P j z
set_each P xs k y lt here there j z at = ⊎_elim {C = P j z}
    (λ (e : j ≡ k). let same : y ≡ z = same_Some y z (sym (get_set_same xs k y lt) ∙ (ap (slice_get (slice_set xs k y)) (sym e) ∙ at)) in subst (P j) same (subst (λ n. P n y) (sym e) here))
    (λ ne. there j z ne (sym (get_set_other xs k j y ne) ∙ at))
    (cases_eq j k)

-- a tile's value in a list of values comes from an element
pub value_at : {B : Type 0} (xs : List (TileWith B)) (k : ℕ) (a : TileValue) → slice_get (map (λ (x : TileWith B). x.core) xs) k ≡ Some a → (x : TileWith B) × (slice_get xs k ≡ Some x) × (x.core ≡ a)
value_at [] k a e = absurd (cc e)
value_at (x ∷ xs) zero a e = (x, refl, same_Some x.core a e)
value_at (x ∷ xs) (suc k) a e = value_at xs k a e

-- what each element becomes goes by its place
pub map_places : {A C : Type 0} (h : A → C) (f : ℕ → C) (xs : List A) (a : ℕ) → ((k : ℕ) (x : A) → slice_get xs k ≡ Some x → h x ≡ f (a + k)) → map h xs ≡ map f (range_with_len a (length xs))
map_places h f [] a each = refl
map_places h f (x ∷ xs) a each =
    let z : a + 0 ≡ a = omega arith in
    (λ i. (each 0 x refl ∙ ap f z) i ∷ map_places h f xs (a + 1) (λ k y e. each (suc k) y e ∙ ap f (next k)) i)
  where
    next : (k : ℕ) → a + suc k ≡ a + 1 + k
    next k = omega arith
