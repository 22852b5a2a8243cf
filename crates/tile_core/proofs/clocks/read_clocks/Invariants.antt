use Rattle.std.proofs.Common.{take}
use Rattle.tile_core.specs.Clocks.{ReadsClocks}
use Rattle.edge_lock.specs.EndValues.{SameEnd}
use Rattle.tile_core.proofs.clocks.read_clocks.Given as goal

abbrev pub invariant-loop-i : goal.invariant-loop-i
invariant-loop-i g l = record {
  done : ReadsClocks (take l.i l.needs) l.fn.least l.greatest (g.D.Board.end l.fn.board).lists (g.D.Board.end l.board).lists;
  same : SameEnd (g.D.Board.end l.fn.board) (g.D.Board.end l.board);
  moved : g.D.Board.moved l.fn.board l.board;
}
