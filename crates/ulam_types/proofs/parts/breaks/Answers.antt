use Rattle.std.proofs.Common.{arith, rules}
use Rattle.std.proofs.lemmas.Grind.{common_steps}
use Rattle.type_rules.specs.Bodies as walk
use Rattle.ulam_types.proofs.Fails.{passed_on}
use Rattle.ulam_types.proofs.parts.breaks.Goals as goal

pub returns-in_err-within_loop : goal.returns-in_err-within_loop
unfolding walk.statement
returns-in_err-within_loop c = passed_on _ _ _ _ _ c.from_residual.ensures c.in_err-within_loop.ensures (λ f h. first_of (search rules, grind (arith, common_steps)))
