use Rattle.std.proofs.Common.{rules, tests}
use Rattle.journal_check.proofs.entries.is_event.Goals as goal

pub returns-then-is_at : goal.returns-then-is_at
returns-then-is_at c = search (tests, rules)
