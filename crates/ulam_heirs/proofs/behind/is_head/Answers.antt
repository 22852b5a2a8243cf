use Rattle.std.proofs.Common.{rules}
use Rattle.ulam_heirs.proofs.behind.is_head.Goals as goal

pub returns-in-Open : goal.returns-in-Open
returns-in-Open c = search rules

pub returns-in_default-matches-4 : goal.returns-in_default-matches-4
returns-in_default-matches-4 c = search rules
