-- A plane of two tiles of 16 by 16, one beside the other.
use Rattle.std.proofs.Common.{◌≡◌, ◌≢◌, ℕ, zero, suc, ◌+◌, ◌*◌, ◌/◌, ◌<◌, true, false, [], ◌∷◌, List, refl, sym, ap, ◌∙◌, subst, arith, inr, Some}
use Rattle.std.specs.Prelude.{◌&&◌, not, nat_lt, replicate, slice_index_or, slice_get}
use Rattle.std.proofs.lemmas.Bool.Decides.{nat_tests}
use Rattle.bit_field.specs.Atom.{AtomValue}
use Rattle.tile_map.specs.Plane.{MapValue, whole_plane, site, is_live, is_on}
use Rattle.cell_grid.specs.Grid.{GridValue, empty_grid, with_site}
use Rattle.draw_stream.specs.declared.attempt.Attempt.{Attempt}
use Rattle.plane_grid.specs.PlaneGrids.{IsGridOf}
use Rattle.tile_core.specs.Underway.{CanAttempt}
use Rattle.cases_tile.proofs.Plane.{replicated}

unmarked : (n i : ℕ) → slice_index_or (replicate n false) i false ≡ false
unmarked zero i = refl
unmarked (suc n) zero = refl
unmarked (suc n) (suc i) = unmarked n i

both_on : (t : ℕ) → t < 2 → is_on (whole_plane 2 1 16 16) t ≡ true
both_on t lt = let low : nat_lt t 2 ≡ true = grind (arith, nat_tests, lt) in λ i. low i && not (unmarked 2 t i)

all_live : (x y : ℕ) → x < 32 → y < 16 → slice_index_or (replicate 512 true) (y * 32 + x) false ≡ is_live (whole_plane 2 1 16 16) (site x y)
all_live x y p q =
    let column : nat_lt x 32 ≡ true = grind (arith, nat_tests, p) in
    let row : nat_lt y 16 ≡ true = grind (arith, nat_tests, q) in
    let owner : y / 16 * 2 + x / 16 < 2 = omega (arith, p, q) in
    replicated 512 (y * 32 + x) (omega (arith, p, q)) ∙ sym (λ i. (column i && row i) && both_on (y / 16 * 2 + x / 16) owner i)

pub two_grid : (m : MapValue) (g h : GridValue) (a : AtomValue) → m ≡ whole_plane 2 1 16 16 → g ≡ empty_grid 32 16 → h ≡ with_site g 15 4 a → IsGridOf m h
two_grid m g h a map made put =
    let base : IsGridOf (whole_plane 2 1 16 16) (with_site (empty_grid 32 16) 15 4 a) = record { wide = refl; high = refl; live = all_live } in
    subst (λ (x : MapValue × GridValue). IsGridOf x.0 x.1) (λ i. (sym map i, sym (put ∙ ap (λ k. with_site k 15 4 a) made) i)) base

pub can_attempt : (m : MapValue) (t : ℕ) (a : Attempt) (attempts : List Attempt) → m ≡ whole_plane 2 1 16 16 → t < 2 → a.centre < 256 → attempts ≡ a ∷ [] → CanAttempt m t attempts
can_attempt m t a attempts map lt small is = subst (λ (x : MapValue × List Attempt). CanAttempt x.0 t x.1) (λ i. (sym map i, sym is i)) (record {
  inside = lt;
  few = omega arith;
  centres = one;
  on = inr (both_on t lt);
})
  where
    one : (n : ℕ) (b : Attempt) → slice_get (a ∷ []) n ≡ Some b → b.centre < 256
    one zero b at = let same : a ≡ b = cc (at) in subst (λ (x : Attempt). x.centre < 256) same small
    one (suc n) b at = absurd (cc (at))

pub numbers_apart : (a b : ℕ) → a ≡ 0 → b ≡ 1 → (b ≢ a) × (a ≢ b)
numbers_apart a b is_0 is_1 = ((λ same. absurd (omega (arith, same, is_0, is_1))), (λ same. absurd (omega (arith, same, is_0, is_1))))
