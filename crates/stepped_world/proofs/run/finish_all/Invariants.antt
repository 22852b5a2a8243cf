use Rattle.std.proofs.Common.{◌≡◌, ◌<◌, ℕ, true, slice_get}
use Rattle.std.specs.List.{range_with_len}
use Rattle.stepped_world.specs.Running.{rest_by, on_board, Follows, stands_still}
use Rattle.stepped_world.proofs.run.finish_all.Given as goal

abbrev pub invariant-loop-tile : goal.invariant-loop-tile
invariant-loop-tile g l = record {
  done : Follows g.B.Behave.after l.map (on_board l.fn.tiles l.fn.board) (on_board l.tiles l.board) (rest_by (range_with_len 0 l.tile));
  still : (t : ℕ) → t < l.tile → stands_still (slice_get l.tiles t) ≡ true;
}
