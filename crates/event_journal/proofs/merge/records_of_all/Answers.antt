use Rattle.event_journal.proofs.Keys.{lefts_more}
use Rattle.event_journal.proofs.merge.records_of_all.Goals as goal

pub loop-log-preserved : goal.loop-log-preserved
loop-log-preserved c =
    lefts_more c.loop-log.lefts.items c.push.new.self.items c.records.result c.loop-log.log-index
    c.args.logs.now c.log-item.result _ c.loop-log-test.true c.log-item.is c.records.ensures
    c.in_ok-push.ensures.items c.loop-log.invariant
