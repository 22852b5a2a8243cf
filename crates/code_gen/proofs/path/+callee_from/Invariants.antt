use Rattle.std.proofs.Common.{length}
use Rattle.code_gen.proofs.path.+callee_from.Given as goal

abbrev pub decreases-callee_from : goal.decreases-callee_from
decreases-callee_from l = length l.steps.now
