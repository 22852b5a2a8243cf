use Rattle.std.proofs.Common.{arith, rules}
use Rattle.std.proofs.lemmas.Grind.{common_steps}
use Rattle.ulam_types.proofs.Fails.{passed_on, no_room}
use Rattle.ulam_types.proofs.program.find.Goals as goal

pub returns-in_err-sigs : goal.returns-in_err-sigs
returns-in_err-sigs c = no_room _ _ _ c.from_residual.ensures

pub returns-in_err-classes : goal.returns-in_err-classes
returns-in_err-classes c = passed_on _ _ _ _ _ c.from_residual-in_err-classes.ensures c.in_err-classes.ensures (λ f h. first_of (search rules, grind (arith, common_steps)))
