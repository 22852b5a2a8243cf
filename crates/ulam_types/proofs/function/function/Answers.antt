use Rattle.std.proofs.Common.{arith, rules}
use Rattle.std.proofs.lemmas.Grind.{common_steps}
use Rattle.ulam_types.proofs.Fails.{passed_on}
use Rattle.ulam_types.proofs.function.function.Goals as goal

pub returns-in_err-header : goal.returns-in_err-header
returns-in_err-header c = passed_on _ _ _ _ _ c.from_residual.ensures c.in_err-header.ensures (λ f h. first_of (search rules, grind (arith, common_steps)))

pub returns-in_err-found : goal.returns-in_err-found
returns-in_err-found c = passed_on _ _ _ _ _ c.from_residual-in_err-found.ensures c.in_err-found.ensures (λ f h. first_of (search rules, grind (arith, common_steps)))
