use Rattle.std.proofs.Common.{◌≡◌, length}
use Rattle.event_journal.proofs.Splitting.{AreSplit}
use Rattle.event_journal.proofs.split.split_below.Given as goal

abbrev pub invariant-loop-k : goal.invariant-loop-k
invariant-loop-k l = record {
  end : l.k-end ≡ length l.fn.merge;
  split : AreSplit l.stamp l.k l.fn.merge l.front l.merge;
}
