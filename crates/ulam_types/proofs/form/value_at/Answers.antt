use Rattle.std.proofs.Common.{arith, rules}
use Rattle.std.proofs.lemmas.Grind.{common_steps}
use Rattle.type_rules.specs.Walk as walk
use Rattle.ulam_types.proofs.Fails.{passed_on, no_room}
use Rattle.ulam_types.proofs.form.value_at.Goals as goal

pub returns-in_err-ty : goal.returns-in_err-ty
unfolding walk.expr
returns-in_err-ty c = λ want. passed_on _ _ _ _ _ c.from_residual.ensures c.in_err-ty.ensures (λ f h. first_of (search rules, grind (arith, common_steps)))

pub returns-in_err-path : goal.returns-in_err-path
returns-in_err-path c = λ want. no_room _ _ _ c.from_residual-in_err-path.ensures
