use Rattle.std.proofs.Common.{rules, arith}
use Rattle.std.proofs.lemmas.Grind.{common_steps}
use Rattle.atom_layout.proofs.rounds.type_bits.Goals as goal

pub returns-in-Some : goal.returns-in-Some
returns-in-Some c = first_of (search rules, grind (arith, common_steps))
