use Rattle.std.proofs.Common.{ap, sym, ◌∙◌}
use Rattle.report_text.proofs.Takings.{placed_elsewhere, placed_other, placed_well}
use Rattle.report_text.specs.Reading.{is_attempt}
use Rattle.report_text.proofs.placing.attempt_fault.Goals as goal

pub returns-then-not-is_at_home-clause-fault : goal.returns-then-not-is_at_home-clause-fault
returns-then-not-is_at_home-clause-fault c = λ list is.
    sym (placed_elsewhere c.args.map.now list c.args.r.now (sym c.is_at_home.ensures ∙ c.if-not-is_at_home.true))

pub returns-then-is_attempt-clause-fault : goal.returns-then-is_attempt-clause-fault
returns-then-is_attempt-clause-fault c = λ list is.
    sym (placed_well c.args.map.now list c.args.r.now (sym c.is_at_home.ensures ∙ c.if-not-is_at_home.false)
    (ap (λ a. is_attempt c.args.map.now a c.args.r.now) (sym (c.seek_attempt-found.ensures.value list is)) ∙ sym c.is_attempt.ensures ∙ c.if-is_attempt.true))

pub returns-else-is_attempt-clause-fault : goal.returns-else-is_attempt-clause-fault
returns-else-is_attempt-clause-fault c = λ list is.
    sym (placed_other c.args.map.now list c.args.r.now (sym c.is_at_home.ensures ∙ c.if-not-is_at_home.false)
    (ap (λ a. is_attempt c.args.map.now a c.args.r.now) (sym (c.seek_attempt-found.ensures.value list is)) ∙ sym c.is_attempt.ensures ∙ c.if-is_attempt.false))
