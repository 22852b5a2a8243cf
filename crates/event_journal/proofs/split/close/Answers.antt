use Rattle.std.proofs.Common.{arith}
use Rattle.event_journal.proofs.Splitting.{closed_merged}
use Rattle.event_journal.proofs.split.close.Goals as goal

pub returns : goal.returns
returns c =
    let l = c.loop-k in
    let count = l.invariant.closed.count in
    closed_merged l.k l.merge c.args.merge.now l.invariant.closed (omega (arith, count, l.invariant.end, c.loop-k-test.false))
