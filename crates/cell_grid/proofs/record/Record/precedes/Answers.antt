use Rattle.std.proofs.Common.{rules, arith}
use Rattle.std.proofs.lemmas.Grind.{common_steps}
use Rattle.cell_grid.proofs.record.Record.precedes.Goals as goal

pub returns-then-self-other-2 : goal.returns-then-self-other-2
returns-then-self-other-2 c = first_of (search rules, grind (arith, common_steps))
