use Rattle.std.proofs.Common.{rules}
use Rattle.stepped_world.proofs.run.is_still.Goals as goal

pub returns-in-Finished : goal.returns-in-Finished
returns-in-Finished c = search rules

pub returns-in_default : goal.returns-in_default
returns-in_default c = search rules
