use Rattle.std.proofs.Common.{arith, rules}
use Rattle.std.proofs.lemmas.Grind.{common_steps}
use Rattle.ulam_types.proofs.Fails.{passed_on, no_room}
use Rattle.ulam_types.proofs.function.member.Goals as goal

pub returns-in_err-word-in-Field : goal.returns-in_err-word-in-Field
returns-in_err-word-in-Field c = no_room _ _ _ c.from_residual.ensures

pub returns-in_err-slots-in-Function : goal.returns-in_err-slots-in-Function
returns-in_err-slots-in-Function c = no_room _ _ _ c.from_residual-in_err-slots-in-Function.ensures

pub returns-in_err-body-in-Function : goal.returns-in_err-body-in-Function
returns-in_err-body-in-Function c = passed_on _ _ _ _ _ c.from_residual-in_err-body-in-Function.ensures c.in_err-body-in-Function.ensures (λ f h. first_of (search rules, grind (arith, common_steps)))

pub returns-in_err-word-in-Function : goal.returns-in_err-word-in-Function
returns-in_err-word-in-Function c = no_room _ _ _ c.from_residual-in_err-word-in-Function.ensures
