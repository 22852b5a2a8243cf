use Rattle.std.proofs.Common.{◌∙◌, ap, length, subst, sym}
use Rattle.cell_grid.specs.Records.{replay}
use Rattle.chain_text.specs.Values.{chain_value}
use Rattle.event_journal.specs.Serial.{course}
use Rattle.journal_check.specs.Entries.{IsPlanOf}
use Rattle.plane_grid.specs.PlaneGrids.{IsGridOf}
use Rattle.report_judge.specs.Judging.{Judges, JudgesOn, ReadValue, named_course}
use Rattle.report_judge.specs.declared.judgement.Judgement.TheVariants as word
use Rattle.report_text.specs.Entries.{Entries}
use Rattle.tile_map.specs.Plane.{MapValue}
use Rattle.world_runs.proofs.KnownAtoms.{replay_known}
use Rattle.chain_run.proofs.Left.{replay_between}
use Rattle.chain_run.proofs.LegReads.{begins_of, right_of}
use Rattle.chain_run.proofs.Legs.{plan_of}
use Rattle.chain_run.proofs.Numbered.{judged_number}
use Rattle.chain_run.specs.Judging.{in_file, judged_chain}
use Rattle.chain_run.specs.Reader.{LegValue, text_bytes}
use Rattle.chain_run.specs.Standings.{IsRight}
use Rattle.chain_run.proofs.leg_read.LegRead.judge_from.Goals as goal

pub judge_on-requires-clause-plan : goal.judge_on-requires-clause-plan
judge_on-requires-clause-plan g c = subst (λ (v : ReadValue). IsPlanOf v.map v.plan) (sym c.new-report.ensures) (plan_of (chain_value c.self.inside.leg.chain.now).plane c.self.inside.plan c.self.invariant.runs)

pub judge_on-requires-clause-start : goal.judge_on-requires-clause-start
judge_on-requires-clause-start g c = (
  c.requires.between.between.stored,
  subst (λ (m : MapValue). IsGridOf m c.args.start) (ap (λ (v : LegValue). v.chain.plane) (sym c.self.view_is) ∙ ap (λ (v : ReadValue). v.map) (sym c.new-report.ensures)) c.requires.between.between.grid,
)

pub judge_on-requires-clause-named : goal.judge_on-requires-clause-named
judge_on-requires-clause-named g c =
    replay_known (length c.args.names.now) (g.B.Behave.after c.args.behave.now) c.args.start c.new-report.result.entries.records c.requires.between.brings c.requires.between.between.named

pub returns-in-Yes-clause-judged : goal.returns-in-Yes-clause-judged
returns-in-Yes-clause-judged g c = λ old begins.
    let after = g.B.Behave.after c.args.behave.now in
    let names = c.args.names.now in
    let read = c.new-report.result in
    let f = c.self.inside in
    let l : LegValue = record { chain = chain_value f.leg.chain.now; number = f.leg.number; before = f.before; whole = text_bytes f.text; plan = f.plan; entries = f.journal } in
    let judged = subst (JudgesOn (named_course (course read.map read.plan after c.args.start) names) read.bytes read.entries) c.in-Yes.is c.in_ok-grid.ensures.judges in
    let right = right_of l read c.as_bytes.result.now after names c.args.start old word.Yes c.new-report.ensures c.as_bytes.ensures (begins_of c.args.self.now l after c.args.start old (sym c.self.view_is) begins) c.self.invariant.plan_is judged.0 in
    let records = ap (λ (v : ReadValue). v.entries.records) c.new-report.ensures ∙ ap (λ (v : LegValue). v.entries.records) c.self.view_is in (
      subst (λ (v : LegValue). IsRight (judged_chain v.chain after names) v old word.Yes) c.self.view_is right,
      judged.1 ∙ (λ i. replay after (begins i) (records i)),
    )

pub returns-in-Yes-clause-standing : goal.returns-in-Yes-clause-standing
returns-in-Yes-clause-standing g c =
    let after = g.B.Behave.after c.args.behave.now in
    let names = c.args.names.now in
    let read = c.new-report.result in
    let known = c.requires.between in
    let judged = subst (JudgesOn (named_course (course read.map read.plan after c.args.start) names) read.bytes read.entries) c.in-Yes.is c.in_ok-grid.ensures.judges in
    record { chain = known.chain; brings = known.brings; between = replay_between names c.args.self.now.chain after c.args.start _ read.entries.records known.brings known.between judged.1 }

pub judgement_in_file-requires : goal.judgement_in_file-requires
judgement_in_file-requires g c =
    let after = g.B.Behave.after c.args.behave.now in
    let names = c.args.names.now in
    let read = c.new-report.result in
    let f = c.self.inside in
    let judged = subst (JudgesOn (named_course (course read.map read.plan after c.args.start) names) read.bytes read.entries) c.in-No.is c.in_ok-grid.ensures.judges in
    let s = named_course (course read.map read.plan after c.args.start) names in
    let here = subst (λ (e : Entries). Judges s read.bytes e c.in-No.judgement) (ap (λ (v : ReadValue). v.entries) c.new-report.ensures) judged.0 in
    judged_number (chain_value f.leg.chain.now).plane f.plan c.self.invariant.runs.map (text_bytes f.text) f.journal c.self.invariant.says s read.bytes f.before c.in-No.judgement c.self.invariant.low here

pub returns-in-No-clause-judged : goal.returns-in-No-clause-judged
returns-in-No-clause-judged g c = λ old begins.
    let after = g.B.Behave.after c.args.behave.now in
    let names = c.args.names.now in
    let read = c.new-report.result in
    let f = c.self.inside in
    let l : LegValue = record { chain = chain_value f.leg.chain.now; number = f.leg.number; before = f.before; whole = text_bytes f.text; plan = f.plan; entries = f.journal } in
    let judged = subst (JudgesOn (named_course (course read.map read.plan after c.args.start) names) read.bytes read.entries) c.in-No.is c.in_ok-grid.ensures.judges in
    let right = right_of l read c.as_bytes.result.now after names c.args.start old c.in-No.judgement c.new-report.ensures c.as_bytes.ensures (begins_of c.args.self.now l after c.args.start old (sym c.self.view_is) begins) c.self.invariant.plan_is judged.0 in (
      ap (λ (v : LegValue). v.number) c.self.view_is,
      (
        c.in-No.judgement,
        judged.1,
        subst (λ (v : LegValue). IsRight (judged_chain v.chain after names) v old c.in-No.judgement) c.self.view_is right,
        c.judgement_in_file.ensures ∙ ap (λ (v : LegValue). in_file v.before c.in-No.judgement) c.self.view_is,
      ),
    )
