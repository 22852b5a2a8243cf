use Rattle.std.proofs.Common.{sym}
use Rattle.event_journal.specs.Keys.{lists_behind}
use Rattle.event_journal.proofs.Keys.{none_over, over_tells}
use Rattle.event_journal.proofs.merge.Merge.is_over.Goals as goal

pub returns-in-None : goal.returns-in-None
returns-in-None c = rw (sym c.self.view_is) (none_over (lists_behind c.self.inside.lefts.items) c.self.inside.keys c.self.invariant.1 c.in-None.ensures)

pub returns-in-Some : goal.returns-in-Some
returns-in-Some c = rw (sym c.self.view_is) (over_tells (lists_behind c.self.inside.lefts.items) c.self.inside.keys c.in-Some.least c.self.invariant.0 c.self.invariant.1 c.in-Some.ensures)
