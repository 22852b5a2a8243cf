use Rattle.std.proofs.Common.{arith}
use Rattle.std.proofs.lemmas.Grind.{common_steps}
use Rattle.ulam_names.proofs.whole.whole_context.Goals as goal

pub returns-clause-context : goal.returns-clause-context
returns-clause-context c = grind (arith, common_steps)
