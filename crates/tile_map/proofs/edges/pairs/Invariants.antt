use Rattle.std.proofs.Common.{◌≡◌}
use Rattle.std.specs.Prelude.{flat_map}
use Rattle.std.specs.List.{range_with_len}
use Rattle.tile_map.specs.Plane.{tiles_of, is_on}
use Rattle.tile_map.specs.Neighbours.{near_from}
use Rattle.tile_map.proofs.edges.pairs.Given as goal

abbrev pub invariant-loop-lower : goal.invariant-loop-lower
invariant-loop-lower l = l.pairs.items ≡ flat_map (near_from (is_on l.plane) l.plane.tx (tiles_of l.plane)) (range_with_len 0 l.lower)
