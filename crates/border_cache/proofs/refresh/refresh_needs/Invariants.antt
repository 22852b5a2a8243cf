use Rattle.std.proofs.Common.{take}
use Rattle.border_cache.specs.Borders.{site_of}
use Rattle.border_cache.specs.Copies.{Refreshed, copy_at}
use Rattle.edge_lock.specs.EndValues.{SameEnd}
use Rattle.border_cache.proofs.refresh.refresh_needs.Given as goal

abbrev pub invariant-loop-i : goal.invariant-loop-i
invariant-loop-i g l = record {
  refreshed : Refreshed (site_of l.centre) (take l.i l.needs) (copy_at l.fn.cache (g.D.Board.end l.fn.board).lists) (copy_at l.cache (g.D.Board.end l.board).lists);
  same : SameEnd (g.D.Board.end l.fn.board) (g.D.Board.end l.board);
  moved : g.D.Board.moved l.fn.board l.board;
}
