use Rattle.std.proofs.Common.{◌∙◌, refl, ap, arith, rules}
use Rattle.std.proofs.lemmas.Grind.{common_steps}
use Rattle.ulam_names.specs.BodyWalk as here
use Rattle.ulam_names.specs.Shown.{scope_of}
use Rattle.ulam_names.proofs.Faults.{passed_on}
use Rattle.ulam_names.proofs.parts.simple.Goals as goal

pub returns-in_err-maybe_expr-in-Return : goal.returns-in_err-maybe_expr-in-Return
returns-in_err-maybe_expr-in-Return c = λ from n. passed_on _ _ _ _ _ c.from_residual.ensures c.in_err-maybe_expr-in-Return.ensures
    (λ f h. ap (λ z. here.statement_in c.args.context.now (scope_of c.args.entries.now from) n z) c.in-Return.is ∙ rw h refl)

pub returns-in_err-to-in-Assign : goal.returns-in_err-to-in-Assign
returns-in_err-to-in-Assign c = λ from n. passed_on _ _ _ _ _ c.from_residual-in_err-to-in-Assign.ensures c.in_err-to-in-Assign.ensures
    (λ f h. ap (λ z. here.statement_in c.args.context.now (scope_of c.args.entries.now from) n z) c.in-Assign.is ∙ rw h refl)

pub returns-in_err-value-in-Assign : goal.returns-in_err-value-in-Assign
returns-in_err-value-in-Assign c = λ from n. passed_on _ _ _ _ _ c.from_residual-in_err-value-in-Assign.ensures c.in_err-value-in-Assign.ensures
    (λ f h. ap (λ z. here.statement_in c.args.context.now (scope_of c.args.entries.now from) n z) c.in-Assign.is ∙ rw (c.in_ok-to-in-Assign.ensures, h) refl)

pub returns-in_err-left_side-in-Count : goal.returns-in_err-left_side-in-Count
returns-in_err-left_side-in-Count c = λ from n. passed_on _ _ _ _ _ c.from_residual-in_err-left_side-in-Count.ensures c.in_err-left_side-in-Count.ensures
    (λ f h. ap (λ z. here.statement_in c.args.context.now (scope_of c.args.entries.now from) n z) c.in-Count.is ∙ rw h refl)

pub returns-in_err-words-in-Call : goal.returns-in_err-words-in-Call
returns-in_err-words-in-Call c = λ from n. passed_on _ _ _ _ _ c.from_residual-in_err-words-in-Call.ensures c.in_err-words-in-Call.ensures (λ f h. first_of (search rules, grind (arith, common_steps)))

pub returns-in_err-args-in-Call : goal.returns-in_err-args-in-Call
returns-in_err-args-in-Call c = λ from n. passed_on _ _ _ _ _ c.from_residual-in_err-args-in-Call.ensures c.in_err-args-in-Call.ensures (λ f h. first_of (search rules, grind (arith, common_steps)))
