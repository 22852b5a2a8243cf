use Rattle.border_cache.specs.Accesses.{AddsSome}
use Rattle.border_cache.specs.News.{NewsIn}
use Rattle.border_cache.specs.Shared.{IsInRun, TakesAt}
use Rattle.edge_lock.specs.EndValues.{SameEnd}
use Rattle.border_cache.proofs.refresh.refresh_run.Given as goal

abbrev pub invariant-loop-x : goal.invariant-loop-x
invariant-loop-x g l = record {
  read : AddsSome l.news.border.edge (TakesAt l.news.border.edge (NewsIn l.news.words (IsInRun l.run l.x)) l.fn.cache l.cache) (g.D.Board.end l.fn.board) (g.D.Board.end l.board);
  same : SameEnd (g.D.Board.end l.fn.board) (g.D.Board.end l.board);
  moved : g.D.Board.moved l.fn.board l.board;
}
