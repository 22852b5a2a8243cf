use Rattle.std.proofs.Common.{take}
use Rattle.journal_check.specs.Clocks.{set_at}
use Rattle.journal_check.proofs.stamped.set.Given as goal

abbrev pub invariant-loop-i : goal.invariant-loop-i
invariant-loop-i l = set_at l.initial.clocks (take l.i l.needs) l.stamp l.clocks
