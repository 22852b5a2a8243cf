use Rattle.std.proofs.Common.{arith, refl}
use Rattle.event_journal.specs.Logs.{ComesBefore}
use Rattle.journal_check.proofs.Lists.{adjacent_pairs}
use Rattle.journal_check.proofs.Orders.{before_chain}
use Rattle.journal_check.proofs.accounted.are_sorted.Goals as goal

pub returns : goal.returns
returns c = (
  (λ _. adjacent_pairs ComesBefore before_chain c.args.abandoned.now (λ k d lt. c.loop-i.invariant k d (omega (arith, lt, c.loop-i-test.false)))),
  (λ _. refl),
)
