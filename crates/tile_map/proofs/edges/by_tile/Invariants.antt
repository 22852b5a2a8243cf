use Rattle.std.proofs.Common.{◌≡◌, map}
use Rattle.std.specs.List.{range_with_len}
use Rattle.tile_map.specs.Edges.{edges_among}
use Rattle.tile_map.proofs.edges.by_tile.Given as goal

abbrev pub invariant-loop-tile : goal.invariant-loop-tile
invariant-loop-tile l = l.lists.items ≡ map (edges_among l.ends l.tiles) (range_with_len 0 l.tile)
