use Rattle.std.proofs.Common.{◌≡◌, ◌++◌, map}
use Rattle.std.specs.Prelude.{filter}
use Rattle.std.specs.List.{range_with_len}
use Rattle.tile_map.specs.Plane.{is_on}
use Rattle.tile_map.specs.Neighbours.{are_joined}
use Rattle.tile_map.proofs.edges.push_pairs.Given as goal

abbrev pub invariant-loop-higher : goal.invariant-loop-higher
invariant-loop-higher l = l.pairs.items ≡ l.fn.pairs.items ++ map (λ u. (l.lower, u)) (filter (are_joined (is_on l.plane) l.plane.tx l.lower) (range_with_len 0 l.higher))
