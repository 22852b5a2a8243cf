use Rattle.std.proofs.Common.{◌≡◌, replicate, []}
use Rattle.tile_threads.proofs.edges.no_passes.Given as goal

abbrev pub invariant-loop-tile : goal.invariant-loop-tile
invariant-loop-tile l = l.passes.items ≡ replicate l._tile []
