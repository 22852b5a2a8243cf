use Rattle.std.proofs.Common.{◌≡◌, ◌+◌}
use Rattle.tile_core.specs.Underway.{GoesFar, tile_at}
use Rattle.tile_core.proofs.Falls.{steps_left}
use Rattle.edge_lock.specs.EndValues.{SameEnd}
use Rattle.tile_core.proofs.tile.Tile.attempt_whole.Given as goal

abbrev pub invariant-loop-phase : goal.invariant-loop-phase
invariant-loop-phase g l = record {
  far : GoesFar l.fn.self.core.cache.map (g.B.Behave.after l.fn.self.behave) (tile_at l.fn.self.core (g.D.Board.end l.fn.board).lists) (tile_at l.self.core (g.D.Board.end l.board).lists);
  taken : l.self.core.taken ≡ l.fn.self.core.taken + 1;
  phase : l.phase ≡ l.self.core.phase;
  number : l.self.core.number ≡ l.fn.self.core.number;
  map : l.self.core.cache.map ≡ l.fn.self.core.cache.map;
  meaning : g.B.Behave.after l.self.behave ≡ g.B.Behave.after l.fn.self.behave;
  same : SameEnd (g.D.Board.end l.fn.board) (g.D.Board.end l.board);
  moved : g.D.Board.moved l.fn.board l.board;
}

abbrev pub decreases-loop-phase : goal.decreases-loop-phase
decreases-loop-phase g l = steps_left l.self.core
