-- What a run left, and what holds of it.
use Rattle.std.specs.Prelude.{ℕ, ◌≡◌, List, []}
use Rattle.cell_grid.specs.declared.record.Record.{Record}
use Rattle.cell_grid.specs.Grid.{GridValue}
use Rattle.event_journal.specs.declared.abandoned.Abandoned.{Abandoned}
use Rattle.event_journal.specs.Serial.{Course, IsSerial}
use Rattle.report_text.specs.Entries.{Entries}
use Rattle.feast_run.specs.Stages.{ReadyValue}
use Rattle.report_text.specs.Again.{entries_in}
use Rattle.report_text.specs.Report.{report, report_value}
use Rattle.tile_map.specs.Plane.{tiles_of}
use Rattle.world_runs.specs.Fresh.{world_course}
use Rattle.world_runs.specs.OneTile.{events_of}

-- the course of a world, by what its elements mean
abbrev pub course_of : ReadyValue → Course
course_of r = world_course r.world r.meaning

-- What a run left, and what holds of it: its events stand in one serial order. Its grid is what the
-- events of its journal make, one at a time in the journal's order, on one uncut grid that begins
-- with the world's atoms, by what the elements mean; each attempt of each tile is one event or one
-- abandoned attempt; each stamp is 1 more than the greatest of the linked events before it; and
-- each abandoned attempt is excused by the attempt that it names
abbrev pub IsRun : ReadyValue → GridValue → List Record → List Abandoned → Type 0
IsRun r grid records abandoned = IsSerial (course_of r) grid records abandoned

-- a text is the report of what a run left
pub record Reports (r : ReadyValue) (text : List ℕ) : Type 0 where
  pub grid : GridValue
  pub records : List Record
  pub abandoned : List Abandoned
  pub run : IsRun r grid records abandoned
  -- for one tile each attempt is an event, in its order
  pub alone : tiles_of r.world.plane ≡ 1 → (records ≡ events_of r.world.plane r.world.plan) × (abandoned ≡ [])
  pub shown : text ≡ report r.names grid records abandoned

-- the events and the abandoned attempts of the run that it is the report of
abbrev pub entries_of : {r : ReadyValue} {text : List ℕ} → Reports r text → Entries
entries_of run = entries_in (report_value run.grid run.records run.abandoned)
