use Rattle.event_journal.specs.Keys.{lists_behind}
use Rattle.event_journal.proofs.Keys.{no_lists}
use Rattle.event_journal.proofs.merge.take.Goals as goal

pub returns-in-None-clause-first : goal.returns-in-None-clause-first
returns-in-None-clause-first c = let none = no_lists (lists_behind c.args.lefts.now) c.args.keys.now c.requires.keys c.in-None.ensures in (none, none)
