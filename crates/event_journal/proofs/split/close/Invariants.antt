use Rattle.std.proofs.Common.{◌≡◌, length}
use Rattle.event_journal.proofs.Splitting.{AreClosed}
use Rattle.event_journal.proofs.split.close.Given as goal

abbrev pub invariant-loop-k : goal.invariant-loop-k
invariant-loop-k l = record {
  end : l.k-end ≡ length l.fn.merge;
  closed : AreClosed l.k l.merge l.fn.merge;
}
