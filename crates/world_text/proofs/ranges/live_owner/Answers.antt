use Rattle.std.proofs.Common.{rules}
use Rattle.world_text.proofs.ranges.live_owner.Goals as goal

pub returns-else-is_on : goal.returns-else-is_on
returns-else-is_on c = search rules depth 3
