-- The tiles of a map that are off, by the map's marks.
use Rattle.std.proofs.Common.{ℕ, ◌≡◌, ◌<◌, ◌&&◌, ◌∙◌, Bool, true, false, not, ap, arith, get_or, refl}
use Rattle.std.specs.Prelude.{nat_lt}
use Rattle.std.proofs.lemmas.Bool.Decides.{nat_tests}
use Rattle.tile_map.specs.Plane.{MapValue, is_on, tiles_of}

-- a tile of the plane is off exactly if it has the mark
pub off_at : (m : MapValue) (t : ℕ) → t < tiles_of m → not (is_on m t) ≡ get_or m.off t false
off_at m t lt = ap (λ b. not (b && not (get_or m.off t false))) here ∙ twice (get_or m.off t false)
  where
    here : nat_lt t (tiles_of m) ≡ true
    here = grind (arith, nat_tests, lt)

    twice : (b : Bool) → not (true && not b) ≡ b
    twice true = refl
    twice false = refl
