use Rattle.std.proofs.Common.{All, map, subst, sym}
use Rattle.event_journal.specs.Keys.{AreOwn}
use Rattle.event_journal.specs.Logs.{IsLog, records_of}
use Rattle.event_journal.proofs.Keys.{logs_own}
use Rattle.event_journal.proofs.journal.Journal.walk.Goals as goal

pub new-requires : goal.new-requires
new-requires c =
    let all = subst (λ ls. All IsLog ls) c.as_slice.ensures.value c.all_laws.ensures in
    subst (λ ls. AreOwn (map records_of ls)) (sym c.as_slice-2.ensures.value) (logs_own c.self.inside.logs.items c.self.invariant all)
