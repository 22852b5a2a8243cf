use Rattle.std.proofs.Common.{arith, refl}
use Rattle.cell_grid.specs.Records.{Precedes}
use Rattle.journal_check.proofs.Lists.{adjacent_pairs}
use Rattle.journal_check.proofs.Orders.{precedes_chain}
use Rattle.journal_check.proofs.accounted.are_in_order.Goals as goal

pub loop-i-init : goal.loop-i-init
loop-i-init c = λ k d lt. absurd (omega (arith, lt))

pub returns : goal.returns
returns c = (
  (λ _. adjacent_pairs Precedes precedes_chain c.args.records.now (λ k d lt. c.loop-i.invariant k d (omega (arith, lt, c.loop-i-test.false)))),
  (λ _. refl),
)
