use Rattle.std.proofs.Common.{arith, rules}
use Rattle.std.proofs.lemmas.Grind.{common_steps}
use Rattle.world_text.proofs.printed.push_order.Goals as goal

pub returns-in-Seed : goal.returns-in-Seed
returns-in-Seed c = first_of (search rules, grind (arith, common_steps))
