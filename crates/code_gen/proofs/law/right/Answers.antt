use Rattle.code_gen.proofs.Events.{ready_right}
use Rattle.code_gen.proofs.law.right.Goals as goal

pub returns : goal.returns
returns c = ready_right
