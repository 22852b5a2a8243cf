use Rattle.border_cache.specs.Borders.{site_of}
use Rattle.border_cache.specs.Accesses.{AddsSome}
use Rattle.border_cache.specs.News.{Covers}
use Rattle.border_cache.specs.Published.{PutsAt}
use Rattle.border_cache.specs.Shared.{shared_cell}
use Rattle.border_cache.specs.Windows.{place_in}
use Rattle.edge_lock.specs.EndValues.{SameEnd}
use Rattle.border_cache.proofs.publish.put_sites.Given as goal

abbrev pub invariant-loop-n : goal.invariant-loop-n
invariant-loop-n g l = record {
  put : AddsSome l.border.edge (PutsAt (Covers (place_in l.cache.map (site_of l.centre) l.border.edge) l.n) (shared_cell l.cache l.border.edge)) (g.D.Board.end l.fn.board) (g.D.Board.end l.board);
  same : SameEnd (g.D.Board.end l.fn.board) (g.D.Board.end l.board);
  moved : g.D.Board.moved l.fn.board l.board;
}
