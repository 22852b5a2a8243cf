use Rattle.std.proofs.Common.{arith}
use Rattle.std.proofs.lemmas.Grind.{common_steps}
use Rattle.world_text.proofs.ranges.off_in_range.Goals as goal

pub returns-then-not-is_off_from : goal.returns-then-not-is_off_from
returns-then-not-is_off_from c = grind (arith, common_steps)
