use Rattle.std.proofs.Common.{rules}
use Rattle.world_text.proofs.named.take_site.Goals as goal

pub returns-clause-taken : goal.returns-clause-taken
returns-clause-taken c = search rules depth 3
