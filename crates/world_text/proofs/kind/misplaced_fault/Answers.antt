use Rattle.std.proofs.Common.{rules}
use Rattle.world_text.proofs.kind.misplaced_fault.Goals as goal

pub returns-in_default : goal.returns-in_default
returns-in_default c = search rules depth 3
