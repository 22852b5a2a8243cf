use Rattle.std.proofs.Common.{take}
use Rattle.border_cache.specs.Borders.{site_of}
use Rattle.border_cache.specs.Windows.{PublishesAll, centre_of}
use Rattle.border_cache.specs.Copies.{window_cells}
use Rattle.edge_lock.specs.EndValues.{SameEnd}
use Rattle.border_cache.proofs.publish.publish_needs.Given as goal

abbrev pub invariant-loop-i : goal.invariant-loop-i
invariant-loop-i g l = record {
  published : PublishesAll (centre_of l.cache.map l.cache.tile (site_of l.centre)) (take l.i l.needs) (window_cells l.cache (site_of l.centre)) (g.D.Board.end l.fn.board).lists (g.D.Board.end l.board).lists;
  same : SameEnd (g.D.Board.end l.fn.board) (g.D.Board.end l.board);
  moved : g.D.Board.moved l.fn.board l.board;
}
