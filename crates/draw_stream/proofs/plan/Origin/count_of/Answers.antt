use Rattle.std.proofs.Common.{arith}
use Rattle.std.proofs.lemmas.Grind.{common_steps}
use Rattle.draw_stream.proofs.plan.Origin.count_of.Goals as goal

pub returns-else-index : goal.returns-else-index
returns-else-index c = grind (arith, common_steps)
