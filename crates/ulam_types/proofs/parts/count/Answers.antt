use Rattle.std.proofs.Common.{arith, rules}
use Rattle.std.proofs.lemmas.Grind.{common_steps}
use Rattle.type_rules.specs.Bodies as walk
use Rattle.ulam_types.proofs.Fails.{passed_on}
use Rattle.ulam_types.proofs.parts.count.Goals as goal

pub returns-in_err-left : goal.returns-in_err-left
unfolding walk.statement
returns-in_err-left c = passed_on _ _ _ _ _ c.from_residual.ensures c.in_err-left.ensures (λ f h. first_of (search rules, grind (arith, common_steps)))

pub returns-in_err-sum : goal.returns-in_err-sum
unfolding walk.statement
returns-in_err-sum c = passed_on _ _ _ _ _ c.from_residual-in_err-sum.ensures c.in_err-sum.ensures (λ f h. first_of (search rules, grind (arith, common_steps)))
