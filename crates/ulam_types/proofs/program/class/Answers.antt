use Rattle.std.proofs.Common.{arith, rules}
use Rattle.std.proofs.lemmas.Grind.{common_steps}
use Rattle.ulam_types.proofs.Fails.{passed_on, no_room}
use Rattle.ulam_types.proofs.program.class.Goals as goal

pub returns-in_err-members : goal.returns-in_err-members
returns-in_err-members c = passed_on _ _ _ _ _ c.from_residual.ensures c.in_err-members.ensures (λ f h. first_of (search rules, grind (arith, common_steps)))

pub returns-in_err-word : goal.returns-in_err-word
returns-in_err-word c = no_room _ _ _ c.from_residual-in_err-word.ensures
