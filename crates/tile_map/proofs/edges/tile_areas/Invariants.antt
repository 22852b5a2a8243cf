use Rattle.std.proofs.Common.{◌≡◌, map}
use Rattle.std.specs.List.{range_with_len}
use Rattle.tile_map.specs.Tables.{areas_of}
use Rattle.tile_map.proofs.edges.tile_areas.Given as goal

abbrev pub invariant-loop-tile : goal.invariant-loop-tile
invariant-loop-tile l = l.areas.items ≡ map (areas_of l.plane) (range_with_len 0 l.tile)
