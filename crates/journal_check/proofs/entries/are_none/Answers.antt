use Rattle.std.proofs.Common.{rules}
use Rattle.journal_check.proofs.entries.are_none.Goals as goal

pub returns-then-is_empty : goal.returns-then-is_empty
returns-then-is_empty c = search rules
