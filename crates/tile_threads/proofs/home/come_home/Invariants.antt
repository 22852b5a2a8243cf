use Rattle.std.proofs.Common.{◌≡◌, ◌++◌, All, drop, vec_len}
use Rattle.edge_lock.specs.SharedEnds.{SharedEndValue, shared_end}
use Rattle.tile_threads.specs.declared.worker.Worker.{Worker}
use Rattle.tile_threads.specs.Whole.{tiles_in, IsDone}
use Rattle.tile_threads.proofs.Homing.{HaveComeSoFar}
use Rattle.tile_threads.proofs.home.come_home.Given as goal

abbrev pub invariant-loop-worker : goal.invariant-loop-worker
invariant-loop-worker g l = record {
  rest : l.worker-iterator.rest.items ≡ drop (vec_len l.passes) l.fn.workers.items;
  tiles : l.tiles.items ++ tiles_in l.worker-iterator.rest.items ≡ tiles_in l.fn.workers.items;
  home : HaveComeSoFar l.map l.fn.workers.items l.passes.items;
  done : All (λ (w : Worker g.row.B.Denot SharedEndValue). IsDone l.map w.tile.core (shared_end w.end)) l.worker-iterator.rest.items;
}
