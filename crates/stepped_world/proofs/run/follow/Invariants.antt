use Rattle.stepped_world.specs.Running.{steps_by, on_board, Follows}
use Rattle.stepped_world.proofs.run.follow.Given as goal

abbrev pub invariant-loop-tile : goal.invariant-loop-tile
invariant-loop-tile g l = record {
  can : (goal.iterator-loop-tile g).can_next l.tile-iterator;
  ends : (goal.iterator-loop-tile g).is_finite l.tile-iterator;
  done : Follows g.B.Behave.after l.map (on_board l.fn.tiles l.fn.board) (on_board l.tiles l.board) (steps_by l.yielded);
}
