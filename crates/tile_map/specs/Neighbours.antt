-- Neighbours by the columns and rows of the tiles, tx in a row.
use Rattle.std.specs.Prelude.{ℕ, ◌+◌, ◌/◌, ◌%◌, List, Bool, ◌&&◌, nat_le, nat_lt, map, filter, flat_map}
use Rattle.std.specs.List.{range_with_len}
use Rattle.tile_map.specs.Plane.{MapValue, tiles_of, is_on}

-- whether t is the lower of two tiles whose columns and rows differ by at most 1
abbrev pub are_near : ℕ → ℕ → ℕ → Bool
are_near tx t u = nat_lt t u && ((nat_le (t % tx) (u % tx + 1) && nat_le (u % tx) (t % tx + 1)) && (nat_le (t / tx) (u / tx + 1) && nat_le (u / tx) (t / tx + 1)))

-- whether they are, and both are on
abbrev pub are_joined : (ℕ → Bool) → ℕ → ℕ → ℕ → Bool
are_joined on tx t u = (on t && on u) && are_near tx t u

-- the pairs of a lower tile, of n tiles in total
abbrev pub near_from : (ℕ → Bool) → ℕ → ℕ → ℕ → List (ℕ × ℕ)
near_from on tx n t = map (λ u. (t, u)) (filter (are_joined on tx t) (range_with_len 0 n))

abbrev pub near_pairs : (ℕ → Bool) → ℕ → ℕ → List (ℕ × ℕ)
near_pairs on tx n = flat_map (near_from on tx n) (range_with_len 0 n)

-- the pairs of a tile of the plane with its neighbours that have greater numbers
abbrev pub near_above : MapValue → ℕ → List (ℕ × ℕ)
near_above m t = near_from (is_on m) m.tx (tiles_of m) t
