use Rattle.std.proofs.Common.{length}
use Rattle.code_gen.proofs.path.+through.Given as goal

abbrev pub decreases-through : goal.decreases-through
decreases-through l = length l.steps.now
