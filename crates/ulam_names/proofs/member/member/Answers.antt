use Rattle.std.proofs.Common.{ap, ◌∙◌, refl, arith, rules}
use Rattle.std.proofs.lemmas.Grind.{common_steps}
use Rattle.ulam_tree.specs.declared.raw.Member.{Member}
use Rattle.ulam_names.specs.ClassWalk as here
use Rattle.ulam_names.proofs.Faults.{passed_on, no_room}
use Rattle.ulam_names.proofs.member.member.Goals as goal

pub returns-in_err-field-in-Field : goal.returns-in_err-field-in-Field
returns-in_err-field-in-Field c = passed_on _ _ _ _ _ c.from_residual.ensures c.in_err-field-in-Field.ensures
    (λ f h. ap (λ (x : Member). here.one_more c.args.known.now c.args.names.now c.args.found.now x) c.in-Field.is ∙ rw h refl)

pub returns-in_err-push-in-Field : goal.returns-in_err-push-in-Field
returns-in_err-push-in-Field c = no_room _ _ _ c.from_residual-in_err-push-in-Field.ensures

pub returns-in_err-function-in-Function : goal.returns-in_err-function-in-Function
returns-in_err-function-in-Function c = passed_on _ _ _ _ _ c.from_residual-in_err-function-in-Function.ensures c.in_err-function-in-Function.ensures (λ f h. first_of (search rules, grind (arith, common_steps)))

pub returns-in_err-push-in-Function : goal.returns-in_err-push-in-Function
returns-in_err-push-in-Function c = no_room _ _ _ c.from_residual-in_err-push-in-Function.ensures
