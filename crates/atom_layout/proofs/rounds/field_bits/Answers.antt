use Rattle.std.proofs.Common.{rules, arith}
use Rattle.std.proofs.lemmas.Grind.{common_steps}
use Rattle.atom_layout.proofs.rounds.field_bits.Goals as goal

pub returns-else-length-eq0 : goal.returns-else-length-eq0
returns-else-length-eq0 c = first_of (search rules, grind (arith, common_steps))
