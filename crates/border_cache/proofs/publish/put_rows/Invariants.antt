use Rattle.border_cache.specs.Borders.{site_of}
use Rattle.border_cache.specs.Accesses.{AddsSome}
use Rattle.border_cache.specs.Published.{PutsAt}
use Rattle.border_cache.specs.Shared.{shared_cell}
use Rattle.border_cache.proofs.RowPlaces.{RowsSet}
use Rattle.border_cache.proofs.SharedRuns.{IsAbove}
use Rattle.edge_lock.specs.EndValues.{SameEnd}
use Rattle.border_cache.proofs.publish.put_rows.Given as goal

abbrev pub invariant-loop-j : goal.invariant-loop-j
invariant-loop-j g l = record {
  marks : RowsSet l.area (site_of l.centre) l.j l.masks;
  put : AddsSome l.border.edge (PutsAt (IsAbove l.area (site_of l.centre) l.j) (shared_cell l.cache l.border.edge)) (g.D.Board.end l.fn.board) (g.D.Board.end l.board);
  same : SameEnd (g.D.Board.end l.fn.board) (g.D.Board.end l.board);
  moved : g.D.Board.moved l.fn.board l.board;
}
