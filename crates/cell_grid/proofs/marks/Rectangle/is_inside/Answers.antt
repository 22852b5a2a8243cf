use Rattle.std.proofs.Common.{rules, arith}
use Rattle.std.proofs.lemmas.Grind.{common_steps}
use Rattle.cell_grid.proofs.marks.Rectangle.is_inside.Goals as goal

pub returns-else-self-v : goal.returns-else-self-v
returns-else-self-v c = first_of (search rules, grind (arith, common_steps))
