-- A world and its set, as a judgement knows them.
use Rattle.std.proofs.Common.{ℕ, ◌≡◌, ◌<◌, List, All, Result, Ok, Err, ap, length, subst, sym}
use Rattle.std.specs.Prelude.{IfOk}
use Rattle.draw_stream.proofs.Plans.{no_attempt}
use Rattle.cell_grid.specs.Grid.{GridValue}
use Rattle.cell_grid.specs.Records.{replay}
use Rattle.cell_grid.specs.declared.record.Record.{Record}
use Rattle.element_set.specs.Sets.{Coded}
use Rattle.event_journal.specs.Serial.{course}
use Rattle.report_text.specs.Entries.{Entries}
use Rattle.feast_run.specs.Answer.{rewinds}
use Rattle.feast_run.specs.Audited.{Audits, judged_course}
use Rattle.feast_run.specs.Faults.{IsHalt}
use Rattle.feast_run.specs.Halting.{RefusedValue}
use Rattle.feast_run.specs.Stages.{ReadyValue, records_refused}
use Rattle.feast_run.specs.Tellings.{Tells}
use Rattle.feast_run.specs.declared.halt.Halt.{Halt}
use Rattle.feast_run.specs.declared.halt.Halt.TheVariants.{Missing, NoMemory, Refused}
use Rattle.report_text.specs.Report.{AreNamed}
use Rattle.journal_check.specs.Entries.{IsPlanOf}
use Rattle.report_judge.specs.Judging.{Judges, NamedCourse, judgement_text, named_course}
use Rattle.report_judge.specs.declared.judgement.Judgement.{Judgement}
use Rattle.tile_map.specs.Plane.{MapValue}
use Rattle.window_sites.specs.Window.{WindowValue}
use Rattle.world_runs.proofs.KnownAtoms.{replay_known, start_known}
use Rattle.world_runs.proofs.Valid.{world_known}
use Rattle.cell_grid.specs.Known.{BringsNone, IsKnown}
use Rattle.world_runs.specs.Start.{start_grid}
use Rattle.world_runs.specs.Worlds.{IsWorld}
use Rattle.world_text.specs.Named.{WorldValue}
use Rattle.world_text.specs.Printed.{IsNamed}

pub plan_of : (w : WorldValue) → IsWorld w → IsPlanOf w.plane w.plan
plan_of w h = record { lists = h.lists; on = λ t some. (h.attempts t 0 no_attempt some).on; centres = λ t k d lt. (h.attempts t k d lt).centre }

-- what events leave of the atoms of a world has names
pub replay_named : (names : List (List ℕ)) (w : WorldValue) (means : WindowValue → ℕ → WindowValue) (g : GridValue) (rs : List Record) → IsNamed names w → BringsNone (length names) means → g ≡ start_grid w.plane w.atoms → AreNamed names (replay means g rs).atoms
replay_named names w means g rs h brings is =
    let n = length names in
    let first = subst (λ (v : GridValue). All (IsKnown n) v.atoms) (sym is) (start_known n w.plane w.atoms (world_known names w h)) in
    replay_known n means g rs brings first

-- the course of a judgement whose parts are a world's
pub course_same : (r : ReadyValue) (m : MapValue) (means : WindowValue → ℕ → WindowValue) (names : List (List ℕ)) (g : GridValue) → m ≡ r.world.plane → means ≡ r.meaning → names ≡ r.names → g ≡ start_grid r.world.plane r.world.atoms →
    named_course (course m r.world.plan means g) names ≡ judged_course r
course_same r m means names g em ea en eg = λ i. named_course (course (em i) r.world.plan (ea i) (eg i)) (en i)

-- the line of a right judgement
pub line_audits : {A E : Type 0} (items : A → List ℕ) (r : ReadyValue) (bytes : List ℕ) (j : Entries) (s : NamedCourse) (judgement : Judgement) (text : Result A E) → s ≡ judged_course r → Judges s bytes j judgement →
    IfOk text (λ v. items v ≡ judgement_text judgement) → IfOk text (λ v. Audits r bytes j (items v))
line_audits items r bytes j s judgement (Ok v) same right shown = record { judgement = judgement; judges = subst (λ (x : NamedCourse). Judges x bytes j judgement) same right; shown = shown }
line_audits items r bytes j s judgement (Err e) same right shown = tt

-- a journal has fewer events than are to be left
pub few_told : {X : Type 0} (value : X → List ℕ) (word : List ℕ) (k : ℕ) (r : ReadyValue) (j : Entries) (halt : Halt) → length j.records < k → IsHalt (records_refused word (length j.records)) halt → Tells value (rewinds word k r j) (Err halt)
few_told value word k r j (Refused s) few is = ((few, is.0), subst Coded (sym (ap (λ (v : RefusedValue). v.refusal.code) is.0)) is.1)
few_told value word k r j (Missing v) few is = absurd is
few_told value word k r j NoMemory few is = absurd is
