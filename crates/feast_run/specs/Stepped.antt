-- The stepped run of a world.
use Rattle.std.specs.Prelude.{ℕ, List}
use Rattle.event_journal.specs.Logs.{LogValue, abandoned_in, records_in}
use Rattle.report_text.specs.Entries.{Entries}
use Rattle.feast_run.specs.Owing.{IsRun, course_of}
use Rattle.feast_run.specs.Stages.{ReadyValue}
use Rattle.report_text.specs.Again.{entries_in}
use Rattle.report_text.specs.Report.{of_logs, report}
use Rattle.serial_order.specs.declared.outcome.Outcome.{Outcome}
use Rattle.stepped_world.specs.Ends.{IsOutcome, logs_in}
use Rattle.stepped_world.specs.Machine.{Machine, stepped}
use Rattle.world_runs.specs.Start.{start_grid}
use Rattle.world_runs.specs.Orders.{order_in}

-- the stepped machine of a world once its order is followed and each tile is done, by what the elements mean
unfoldable pub machine_of : ReadyValue → Machine
machine_of r = stepped r.world.plane r.meaning (start_grid r.world.plane r.world.atoms) r.world.plan (order_in r.world)

-- its entries, tile by tile
abbrev pub stepped_logs : ReadyValue → List LogValue
stepped_logs r = logs_in r.world.plane (machine_of r)

-- its events in the order of the journal, and its abandoned attempts
abbrev pub stepped_journal : ReadyValue → Entries
stepped_journal r = entries_in (of_logs (machine_of r).grid (stepped_logs r))

-- its report: its grid, its events in the order of the journal, and its abandoned attempts
abbrev pub stepped_report : ReadyValue → List ℕ
stepped_report r = report r.names (machine_of r).grid (records_in (stepped_logs r)) (abandoned_in (stepped_logs r))

-- what it left is a run's
abbrev pub IsSteppedRun : ReadyValue → Type 0
IsSteppedRun r = IsRun r (machine_of r).grid (records_in (stepped_logs r)) (abandoned_in (stepped_logs r))

-- an outcome of a world's stepped run, by what its elements mean
abbrev pub IsOutcomeOf : ReadyValue → Outcome → Type 0
IsOutcomeOf r o = IsOutcome (course_of r) (order_in r.world) o
