use Rattle.std.proofs.Common.{◌≡◌, ◌+◌}
use Rattle.std.specs.Prelude.{filter, slice_index_or}
use Rattle.std.specs.List.{range_with_len}
use Rattle.tile_map.specs.Edges.{is_in_pair}
use Rattle.tile_map.proofs.edges.edges_of.Given as goal

abbrev pub invariant-loop-edge : goal.invariant-loop-edge
invariant-loop-edge l = l.edges ≡ filter (λ e. is_in_pair l.tile (slice_index_or l.ends e (l.tiles, l.tiles + 1))) (range_with_len 0 l.edge)
