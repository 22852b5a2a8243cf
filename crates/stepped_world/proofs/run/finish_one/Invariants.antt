use Rattle.std.proofs.Common.{List, slice_get}
use Rattle.edge_lock.specs.PlainBoard.{PlainBoardValue}
use Rattle.tile_core.specs.Values.{TileWith}
use Rattle.serial_order.specs.Scene.{on_map}
use Rattle.event_journal.specs.Serial.{Course}
use Rattle.stepped_world.specs.Running.{rest_of, on_board, AreUnderway, Follows, steps_ahead}
use Rattle.stepped_world.proofs.run.finish_one.Given as goal

-- what is left of finishing the tile makes the whole
abbrev pub invariant-loop-tiles : goal.invariant-loop-tiles
invariant-loop-tiles g l = record {
  keeps : (k : Course) → AreUnderway g.B.Behave.after (on_map l.map k) l.fn.tiles l.fn.board → AreUnderway g.B.Behave.after (on_map l.map k) l.tiles l.board;
  rest : (zs : List (TileWith g.row.B.Denot)) (c : PlainBoardValue) → Follows g.B.Behave.after l.map (on_board l.tiles l.board) (on_board zs c) (rest_of l.tile) → Follows g.B.Behave.after l.map (on_board l.fn.tiles l.fn.board) (on_board zs c) (rest_of l.tile);
}

abbrev pub decreases-loop-tiles : goal.decreases-loop-tiles
decreases-loop-tiles g l = steps_ahead (slice_get l.tiles l.tile)
