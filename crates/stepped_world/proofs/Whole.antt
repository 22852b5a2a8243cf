-- A whole stepped run: the steps of the order, and then those of each tile until it is finished.
use Rattle.std.proofs.Common.{◌≡◌, ◌<◌, ℕ, List, true, inl, ap, ◌∙◌}
use Rattle.std.specs.Prelude.{slice_get}
use Rattle.window_sites.specs.Window.{WindowValue}
use Rattle.tile_map.specs.Plane.{MapValue, IsMap, tiles_of}
use Rattle.edge_lock.specs.PlainBoard.{PlainBoardValue}
use Rattle.cell_grid.specs.Records.{replay}
use Rattle.event_journal.specs.Logs.{records_in}
use Rattle.tile_core.specs.Values.{TileWith}
use Rattle.serial_order.specs.Scene.{on_map, IsOver}
use Rattle.event_journal.specs.Serial.{Course}
use Rattle.serial_order.specs.Words.{histories_on}
use Rattle.serial_order.specs.Outcomes.{IsSettlement, scene_of, values_of}
use Rattle.serial_order.specs.declared.outcome.Outcome.{Outcome}
use Rattle.stepped_world.specs.Machine.{first_machine, stepped}
use Rattle.stepped_world.specs.Running.{IsStart, AreUnderway, stands_still, on_board, Act, steps_by, rest_of_all, Follows, IsLike}
use Rattle.stepped_world.specs.Ends.{HasRun, IsAsStepped, IsOutcome}
use Rattle.stepped_world.proofs.Starts.{first_underway, first_like}
use Rattle.stepped_world.proofs.Ended.{is_over, like_it, has_run}
use Rattle.stepped_world.proofs.Newest.{newest_is, logs_are, replay_is}

-- the steps of the order, and then those of all tiles until they are done
abbrev pub steps_then_rest : List ℕ → Act
steps_then_rest order m meaning s = rest_of_all m meaning (steps_by order m meaning s)

module _ {B : Type 0} (after : B → WindowValue → ℕ → WindowValue) (m : MapValue) (valid : IsMap m) (old new : List (TileWith B)) (a b : PlainBoardValue) (order : List ℕ)
    (follows : Follows after m (on_board old a) (on_board new b) (steps_then_rest order)) (still : (t : ℕ) → t < tiles_of m → stands_still (slice_get new t) ≡ true) (g : Course) (s : IsStart after (on_map m g) old a) where
  under : AreUnderway after (on_map m g) new b
  under = follows.underway g (first_underway after m g old a s)

  like : IsLike (on_map m g) new b (stepped m g.meaning g.start g.plan order)
  like = like_it after m valid g new b under still after old a s (stepped m g.meaning g.start g.plan order) (follows.like g (first_machine g.start g.plan) (first_underway after m g old a s) (inl (first_like after m g old a s)))

  pub all_run : HasRun after (on_map m g) new b
  all_run = has_run after m valid g new b under still after old a s

  over : IsOver (scene_of (on_map m g) (values_of new) (histories_on b))
  over = is_over after m valid g new b under still after old a s

  pub as_stepped : IsAsStepped (on_map m g) new b order
  as_stepped = record {
    matches = like.matches;
    logs = logs_are m g new b over (stepped m g.meaning g.start g.plan order) like;
    newest = newest_is m g new b over (stepped m g.meaning g.start g.plan order) like;
    replayed = replay_is m g new b over (stepped m g.meaning g.start g.plan order) like;
  }

-- a settled run
pub outcome_is : {B : Type 0} (m : MapValue) (g : Course) (new : List (TileWith B)) (b : PlainBoardValue) (order : List ℕ) (o : Outcome) → IsAsStepped (on_map m g) new b order → IsSettlement (scene_of (on_map m g) (values_of new) (histories_on b)) o → IsOutcome (on_map m g) order o
outcome_is m g new b order o like settled = record {
  grid = settled.in_order.serial.replayed ∙ (ap (λ ls. replay g.meaning g.start (records_in ls)) (settled.journal ∙ like.logs) ∙ like.replayed);
  journal = settled.journal ∙ like.logs;
  in_order = settled.in_order;
}
