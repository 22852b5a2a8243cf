use Rattle.std.proofs.Common.{arith}
use Rattle.std.proofs.lemmas.Grind.{common_steps}
use Rattle.atom_layout.proofs.rounds.class_bits.Goals as goal

pub loop-member-preserved : goal.loop-member-preserved
loop-member-preserved c = grind (arith, common_steps) steps 300000
