-- What a stepped run comes to is what the stepped machine of its world leaves, and owes what a run does, as what a run with a
-- worker for each tile comes to does.
use Rattle.std.proofs.Common.{ℕ, ◌≡◌, ◌≢◌, List, All, Result, Ok, Err, length, refl, subst, sym}
use Rattle.std.specs.Result.{IfOk}
use Rattle.cell_grid.specs.Grid.{GridValue}
use Rattle.cell_grid.specs.Records.{replay}
use Rattle.cell_grid.specs.declared.record.Record.{Record}
use Rattle.event_journal.specs.Logs.{LogValue, abandoned_in, records_in}
use Rattle.feast_run.specs.Owing.{IsRun, Reports}
use Rattle.feast_run.specs.Stages.{ReadyValue}
use Rattle.feast_run.specs.Stepped.{IsOutcomeOf, IsSteppedRun, machine_of, stepped_logs}
use Rattle.feast_run.specs.Threaded.{IsThreadedOf}
use Rattle.report_text.specs.Report.{AreNamed, report}
use Rattle.serial_order.specs.declared.outcome.Outcome.{Outcome}
use Rattle.tile_map.specs.Plane.{tiles_of}
use Rattle.window_sites.specs.Window.{WindowValue}
use Rattle.world_runs.proofs.KnownAtoms.{replay_known, start_known}
use Rattle.cell_grid.specs.Known.{BringsNone}
use Rattle.world_runs.specs.Known.{ArePlacedKnown}
use Rattle.world_runs.specs.Start.{start_grid}

pub machine_grid : (r : ReadyValue) (o : Outcome) → IsOutcomeOf r o → o.grid ≡ (machine_of r).grid
unfolding machine_of
machine_grid r o h = h.grid

pub machine_logs : (r : ReadyValue) (o : Outcome) → IsOutcomeOf r o → o.journal ≡ stepped_logs r
unfolding machine_of
machine_logs r o h = h.journal

-- what was left is a run's
pub is_run : (r : ReadyValue) (o : Outcome) → IsOutcomeOf r o → IsSteppedRun r
is_run r o h =
    subst (λ (left : GridValue × List LogValue). IsRun r left.0 (records_in left.1) (abandoned_in left.1)) (λ i. (machine_grid r o h i, machine_logs r o h i)) h.in_order.serial

-- each atom that was left has a name
pub left_named : (r : ReadyValue) (left : GridValue) (records : List Record) → left ≡ replay r.meaning (start_grid r.world.plane r.world.atoms) records → BringsNone (length r.names) r.meaning → ArePlacedKnown (length r.names) r.world.atoms →
    AreNamed r.names left.atoms
left_named r left records is brings placed =
    let n = length r.names in
    let start = start_grid r.world.plane r.world.atoms in
    let all = replay_known n r.meaning start records brings (start_known n r.world.plane r.world.atoms placed) in
    subst (λ (g : GridValue). AreNamed r.names g.atoms) (sym is) all

-- the report of what a run with a worker for each of several tiles came to
pub threaded_reports : (r : ReadyValue) (o : Outcome) → IsThreadedOf r o → tiles_of r.world.plane ≢ 1 → Reports r (report r.names o.grid (records_in o.journal) (abandoned_in o.journal))
threaded_reports r o h several =
    record {
      grid = o.grid;
      records = records_in o.journal;
      abandoned = abandoned_in o.journal;
      run = h.serial;
      alone = λ one. absurd (several one);
      shown = refl;
    }

-- what acts has one meaning, so the run has that
pub outcome_by : {B E : Type 0} (acts : B → WindowValue → ℕ → WindowValue) (P : (WindowValue → ℕ → WindowValue) → Outcome → Type 0) (meaning : WindowValue → ℕ → WindowValue) (behaves : List B) (r : Result Outcome E) → All (λ b. acts b ≡ meaning) behaves →
    IfOk r (λ (o : Outcome). (means : WindowValue → ℕ → WindowValue) → All (λ b. acts b ≡ means) behaves → P means o) → IfOk r (P meaning)
outcome_by acts P meaning behaves (Ok o) all h = h meaning all
outcome_by acts P meaning behaves (Err e) all h = tt
