use Rattle.std.proofs.Common.{◌≡◌, ◌++◌, All, length}
use Rattle.edge_lock.specs.SharedEnds.{IsPassOf}
use Rattle.tile_threads.specs.Whole.{workers_of}
use Rattle.tile_threads.proofs.home.send_out.Given as goal

abbrev pub invariant-loop-tile : goal.invariant-loop-tile
invariant-loop-tile g l = record {
  done : l.workers.items ++ workers_of l.tile-iterator.rest.items l.passes.rest.items ≡ workers_of l.fn.tiles.items l.fn.passes.items;
  count : length l.tile-iterator.rest.items ≡ length l.passes.rest.items;
  stand : All (All (IsPassOf l.edges)) l.passes.rest.items;
}
