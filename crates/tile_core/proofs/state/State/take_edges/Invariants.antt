use Rattle.tile_core.specs.Kept.{at, value_of, HasRoom}
use Rattle.tile_core.specs.Underway.{GoesAnyhow}
use Rattle.tile_core.proofs.Falls.{steps_left}
use Rattle.edge_lock.specs.EndValues.{SameEnd}
use Rattle.tile_core.proofs.state.State.take_edges.Given as goal

abbrev pub invariant-loop-self : goal.invariant-loop-self
invariant-loop-self g l = record {
  goes : GoesAnyhow l.map (at l.fn.self (g.D.Board.end l.fn.board)) (at l.self (g.D.Board.end l.board));
  room : HasRoom l.self;
  same : SameEnd (g.D.Board.end l.fn.board) (g.D.Board.end l.board);
  moved : g.D.Board.moved l.fn.board l.board;
}

abbrev pub decreases-loop-self : goal.decreases-loop-self
decreases-loop-self g l = steps_left (value_of l.self)
