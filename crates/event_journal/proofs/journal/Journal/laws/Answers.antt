use Rattle.std.proofs.Common.{All, subst}
use Rattle.event_journal.specs.Logs.{IsJournal, IsLog}
use Rattle.event_journal.proofs.Journals.{journal_of}
use Rattle.event_journal.proofs.journal.Journal.laws.Goals as goal

pub returns : goal.returns
returns c =
    let all = subst (λ ls. All IsLog ls) c.as_slice.ensures.value c.all_laws.ensures in
    subst IsJournal c.self.view_is (journal_of c.self.inside.logs.items c.self.invariant all)
