-- The theorem of a run, in one sentence: its events stand in one serial order.
use Rattle.std.specs.Prelude.{ℕ, ◌≡◌, List}
use Rattle.window_sites.specs.Window.{WindowValue}
use Rattle.cell_grid.specs.Grid.{GridValue}
use Rattle.cell_grid.specs.Records.{replay}
use Rattle.cell_grid.specs.declared.record.Record.{Record}
use Rattle.draw_stream.specs.Plans.{PlanValue}
use Rattle.tile_map.specs.Plane.{MapValue}
use Rattle.event_journal.specs.Accounts.{AreExcused, IsAccounted, IsStamped}
use Rattle.event_journal.specs.declared.abandoned.Abandoned.{Abandoned}

-- What a run is of: the map of its tiles, the attempts that each tile draws, what the elements mean, and the grid with which
-- it starts.
pub record Course : Type 0 where
  pub map : MapValue
  pub plan : PlanValue
  pub meaning : WindowValue → ℕ → WindowValue
  pub start : GridValue

abbrev pub course : MapValue → PlanValue → (WindowValue → ℕ → WindowValue) → GridValue → Course
course map plan meaning start = record { map = map; plan = plan; meaning = meaning; start = start }

-- A journal owes nothing: each attempt of the plan is accounted for by one event or one abandoned attempt, each event has the
-- stamp that the linked events before it give, and each abandoned attempt is excused by the attempt that it names.
pub record OwesNothing (m : MapValue) (plan : PlanValue) (records : List Record) (abandoned : List Abandoned) : Type 0 where
  pub accounted : IsAccounted m plan records abandoned
  pub stamped : IsStamped m records
  pub excused : AreExcused m plan records abandoned

-- All events of a run stand in one serial order, that of its journal: the journal owes nothing, and the grid is what its events
-- make of the start, one after another on one uncut grid, by what the elements mean.
pub record IsSerial (c : Course) (grid : GridValue) (records : List Record) (abandoned : List Abandoned) : Type 0 where
  pub owes : OwesNothing c.map c.plan records abandoned
  pub replayed : grid ≡ replay c.meaning c.start records
