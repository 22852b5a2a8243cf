use Rattle.std.proofs.Common.{◌≡◌, subst}
use Rattle.draw_stream.specs.Plans.{PlanValue}
use Rattle.event_journal.specs.Accounts.{IsAccounted}
use Rattle.event_journal.specs.Serial.{course}
use Rattle.journal_check.specs.Verdicts.{IsVerdict}
use Rattle.report_text.specs.Entries.{Entries}
use Rattle.tile_map.specs.Plane.{MapValue}
use Rattle.report_judge.proofs.judging.judge_on.Goals as goal

moved : (m n : MapValue) (p q : PlanValue) (e f : Entries) → m ≡ n → p ≡ q → e ≡ f → ¬ (IsAccounted m p e.records e.abandoned) → ¬ (IsAccounted n q f.records f.abandoned)
moved m n p q e f map plan entries fails = subst (λ k. ¬ (IsAccounted k q f.records f.abandoned)) map (subst (λ k. ¬ (IsAccounted m k f.records f.abandoned)) plan (subst (λ k. ¬ (IsAccounted m p k.records k.abandoned)) entries fails))

pub returns-in-NotAccounted : goal.returns-in-NotAccounted
returns-in-NotAccounted g c =
    let a = c.args in
    let m = c.map.result.now in
    let p = c.plan.result.now in
    let e = c.journal-journal.result.now in
    let fails = subst (IsVerdict (course m p (g.B.Behave.after a.behave.now) a.start) e.records e.abandoned) c.in-NotAccounted.is c.in_ok-audit.ensures.verdict in
    record {
      judges = (moved m a.report.now.map p a.report.now.plan e a.report.now.entries c.map.ensures c.plan.ensures c.journal-journal.ensures.value fails, λ same. absurd (cc same));
      lines = c.journal-journal.ensures.lines;
      meaning = c.in_ok-audit.ensures.meaning;
    }
