use Rattle.std.proofs.Common.{ℕ, List, length, refl, subst, sym}
use Rattle.feast_run.proofs.Judged.{line_audits, plan_of, replay_named, course_same}
use Rattle.feast_run.proofs.Runs.{ready_valid}
use Rattle.feast_run.specs.Acting.{acts}
use Rattle.feast_run.specs.Values.{elements_value, ready_value}
use Rattle.report_text.specs.Report.{AreNamed}
use Rattle.cell_grid.specs.Records.{replay}
use Rattle.window_sites.specs.Window.{WindowValue}
use Rattle.cell_grid.specs.Known.{BringsNone}
use Rattle.event_journal.specs.Serial.{course}
use Rattle.journal_check.specs.Entries.{IsPlanOf}
use Rattle.report_judge.specs.Judging.{Judges, ReadValue, named_course}
use Rattle.world_text.specs.Values.{world_value}
use Rattle.feast_run.proofs.auditing.audit_line.Goals as goal

pub start-requires : goal.start-requires
start-requires c = ready_valid c.args.ready.now c.requires.ready

pub judge-requires-clause-plan : goal.judge-requires-clause-plan
judge-requires-clause-plan c =
    subst (λ (v : ReadValue). IsPlanOf v.map v.plan) (sym c.new-report.ensures) (plan_of (world_value c.args.ready.now.world) (ready_valid c.args.ready.now c.requires.ready))

pub judge-requires-clause-named : goal.judge-requires-clause-named
judge-requires-clause-named c =
    let w = world_value c.args.ready.now.world in
    let names = (elements_value c.args.ready.now.elements).names in
    let means = acts c.in_ok-actor.actor in
    let brings = subst (λ (m : WindowValue → ℕ → WindowValue). BringsNone (length names) m) (sym c.in_ok-actor.ensures) c.requires.ready.brings in
    let g = c.in_ok-grid.grid in
    let rs = c.args.journal.now.records in
    subst (λ (v : ReadValue). AreNamed c.names-names.result.now (replay means g v.entries.records).atoms) (sym c.new-report.ensures)
    (subst (λ (ns : List (List ℕ)). AreNamed ns (replay means g rs).atoms) (sym c.names-names.ensures) (replay_named names w means g rs c.requires.ready.named brings c.in_ok-grid.ensures.grid))

pub returns : goal.returns
returns c =
    let r = ready_value c.args.ready.now in
    let means = acts c.in_ok-actor.actor in
    let names = c.names-names.result.now in
    let g = c.in_ok-grid.grid in
    let same = course_same r (world_value c.args.ready.now.world).plane means names g refl c.in_ok-actor.ensures c.names-names.ensures c.in_ok-grid.ensures.grid in
    let right = subst (λ (v : ReadValue). Judges (named_course (course v.map v.plan means g) names) v.bytes v.entries c.in_ok-judgement.judgement) c.new-report.ensures c.in_ok-judgement.ensures.judges in
    line_audits (λ v. v.items) r c.args.bytes.now c.args.journal.now _ c.in_ok-judgement.judgement c.judgement_line.result same right c.judgement_line.ensures
