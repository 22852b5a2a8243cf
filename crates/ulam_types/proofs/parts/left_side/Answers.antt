use Rattle.std.proofs.Common.{arith, rules}
use Rattle.std.proofs.lemmas.Grind.{common_steps}
use Rattle.ulam_types.proofs.Fails.{passed_on, no_room}
use Rattle.ulam_types.proofs.parts.left_side.Goals as goal

pub returns-in_err-path-in-Some-target_type : goal.returns-in_err-path-in-Some-target_type
returns-in_err-path-in-Some-target_type c = no_room _ _ _ c.from_residual.ensures

pub returns-in_err-at-in-Some : goal.returns-in_err-at-in-Some
returns-in_err-at-in-Some c = passed_on _ _ _ _ _ c.from_residual-in_err-at-in-Some.ensures c.in_err-at-in-Some.ensures (λ f h. first_of (search rules, grind (arith, common_steps)))

pub returns-in_err-path-in-Some : goal.returns-in_err-path-in-Some
returns-in_err-path-in-Some c = no_room _ _ _ c.from_residual-in_err-path-in-Some.ensures
