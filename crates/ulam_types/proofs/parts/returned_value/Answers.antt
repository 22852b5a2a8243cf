use Rattle.std.proofs.Common.{arith, rules}
use Rattle.std.proofs.lemmas.Grind.{common_steps}
use Rattle.ulam_types.proofs.Fails.{passed_on}
use Rattle.ulam_types.proofs.parts.returned_value.Goals as goal

pub returns-in_err-found-in-Some : goal.returns-in_err-found-in-Some
returns-in_err-found-in-Some c = passed_on _ _ _ _ _ c.from_residual.ensures c.in_err-found-in-Some.ensures (λ f h. first_of (search rules, grind (arith, common_steps)))
