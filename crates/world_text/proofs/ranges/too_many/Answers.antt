use Rattle.std.proofs.Common.{rules}
use Rattle.world_text.specs.Drafts.{too_many}
use Rattle.world_text.proofs.ranges.too_many.Goals as goal

pub returns-in-Attempts : goal.returns-in-Attempts
unfolding too_many
returns-in-Attempts c = search rules depth 3
