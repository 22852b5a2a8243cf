use Rattle.border_cache.specs.Borders.{site_of}
use Rattle.border_cache.specs.Accesses.{AddsSome}
use Rattle.border_cache.specs.News.{Covers, NewsIn}
use Rattle.border_cache.specs.Shared.{TakesAt}
use Rattle.border_cache.specs.Windows.{place_in}
use Rattle.edge_lock.specs.EndValues.{SameEnd}
use Rattle.border_cache.proofs.refresh.refresh_sites.Given as goal

abbrev pub invariant-loop-n : goal.invariant-loop-n
invariant-loop-n g l = record {
  read : AddsSome l.news.border.edge (TakesAt l.news.border.edge (NewsIn l.news.words (Covers (place_in l.fn.cache.map (site_of l.centre) l.news.border.edge) l.n)) l.fn.cache l.cache) (g.D.Board.end l.fn.board) (g.D.Board.end l.board);
  same : SameEnd (g.D.Board.end l.fn.board) (g.D.Board.end l.board);
  moved : g.D.Board.moved l.fn.board l.board;
}
