use Rattle.std.specs.List.{AllAdjacentBelow}
use Rattle.event_journal.specs.Logs.{ComesBefore}
use Rattle.journal_check.proofs.accounted.are_sorted.Given as goal

abbrev pub invariant-loop-i : goal.invariant-loop-i
invariant-loop-i l = AllAdjacentBelow ComesBefore l.abandoned l.i
