use Rattle.std.proofs.Common.{rules}
use Rattle.ulam_heirs.proofs.spans.is_within.Goals as goal

pub returns-then-span-index : goal.returns-then-span-index
returns-then-span-index c = search rules

pub returns-else-span-index : goal.returns-else-span-index
returns-else-span-index c = search rules
