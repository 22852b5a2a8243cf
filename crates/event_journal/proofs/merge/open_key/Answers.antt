use Rattle.std.proofs.Common.{rules}
use Rattle.event_journal.proofs.merge.open_key.Goals as goal

pub returns-clause-value : goal.returns-clause-value
returns-clause-value c = search rules
