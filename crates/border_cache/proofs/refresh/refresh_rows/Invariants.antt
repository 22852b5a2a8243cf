use Rattle.border_cache.specs.Borders.{site_of}
use Rattle.border_cache.specs.Accesses.{AddsSome}
use Rattle.border_cache.specs.News.{NewsIn}
use Rattle.border_cache.specs.Shared.{TakesAt}
use Rattle.border_cache.proofs.SharedRuns.{IsAbove}
use Rattle.edge_lock.specs.EndValues.{SameEnd}
use Rattle.border_cache.proofs.refresh.refresh_rows.Given as goal

abbrev pub invariant-loop-j : goal.invariant-loop-j
invariant-loop-j g l = record {
  read : AddsSome l.news.border.edge (TakesAt l.news.border.edge (NewsIn l.news.words (IsAbove l.area (site_of l.centre) l.j)) l.fn.cache l.cache) (g.D.Board.end l.fn.board) (g.D.Board.end l.board);
  same : SameEnd (g.D.Board.end l.fn.board) (g.D.Board.end l.board);
  moved : g.D.Board.moved l.fn.board l.board;
}
