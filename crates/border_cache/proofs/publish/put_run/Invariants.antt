use Rattle.border_cache.specs.Accesses.{AddsSome}
use Rattle.border_cache.specs.Published.{PutsAt}
use Rattle.border_cache.specs.Shared.{IsInRun, shared_cell}
use Rattle.edge_lock.specs.EndValues.{SameEnd}
use Rattle.border_cache.proofs.publish.put_run.Given as goal

abbrev pub invariant-loop-x : goal.invariant-loop-x
invariant-loop-x g l = record {
  put : AddsSome l.border.edge (PutsAt (IsInRun l.run l.x) (shared_cell l.cache l.border.edge)) (g.D.Board.end l.fn.board) (g.D.Board.end l.board);
  same : SameEnd (g.D.Board.end l.fn.board) (g.D.Board.end l.board);
  moved : g.D.Board.moved l.fn.board l.board;
}
