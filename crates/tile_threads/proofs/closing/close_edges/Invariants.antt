use Rattle.std.proofs.Common.{◌≡◌, ◌-◌, ◌≤◌, ℕ, drop, vec_len}
use Rattle.edge_lock.specs.EndLists.{EndLists}
use Rattle.tile_threads.specs.Passes.{shared_edges, AreLeft}
use Rattle.tile_threads.proofs.Shutting.{AreClosedSoFar}
use Rattle.tile_threads.proofs.closing.close_edges.Given as goal

abbrev pub invariant-loop-edge : goal.invariant-loop-edge
invariant-loop-edge l = record {
  rest : l.edge-iterator.rest.items ≡ drop (vec_len l.closed) l.fn.edges.items;
  few : vec_len l.closed ≤ vec_len l.fn.edges;
  left : (lists : ℕ → ℕ → EndLists) → AreLeft l.map (shared_edges l.fn.edges.items lists) 0 (vec_len l.fn.edges) l.fn.passes.items → AreLeft l.map (shared_edges l.fn.edges.items lists) (vec_len l.closed) (vec_len l.fn.edges - vec_len l.closed) l.passes.items;
  closed : (lists : ℕ → ℕ → EndLists) → AreLeft l.map (shared_edges l.fn.edges.items lists) 0 (vec_len l.fn.edges) l.fn.passes.items → AreClosedSoFar l.map lists l.closed.items;
}
