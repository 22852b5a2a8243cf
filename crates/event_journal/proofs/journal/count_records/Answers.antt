use Rattle.std.proofs.Common.{arith, length}
use Rattle.std.specs.Prelude.{flat_map}
use Rattle.std.proofs.lemmas.List.{at_drop_all}
use Rattle.event_journal.specs.Logs.{records_of}
use Rattle.event_journal.proofs.Journals.{length-records_in}
use Rattle.event_journal.proofs.journal.count_records.Goals as goal

pub returns-clause-value : goal.returns-clause-value
returns-clause-value c =
    let all = length-records_in c.args.logs.now in
    let none = at_drop_all (λ ls. length (flat_map records_of ls)) c.args.logs.now c.loop-log.log-index c.loop-log-test.false in
    omega (arith, all, none, c.loop-log.invariant)
