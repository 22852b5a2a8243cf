use Rattle.edge_lock.specs.EndValues.{SameEnd}
use Rattle.tile_core.specs.Turns.{AgreeOnEdges}
use Rattle.tile_threads.proofs.LettingGo.{after_some}
use Rattle.tile_threads.proofs.home.give_rest.Given as goal

abbrev pub invariant-loop-i : goal.invariant-loop-i
invariant-loop-i g l = record {
  given : AgreeOnEdges l.map l.tile.core.number (g.D.Board.end l.end).lists (after_some (g.D.Board.end l.fn.end).lists l.needs l.i);
  same : SameEnd (g.D.Board.end l.fn.end) (g.D.Board.end l.end);
  moved : g.D.Board.moved l.fn.end l.end;
}
