use Rattle.std.proofs.Common.{◌≡◌, length}
use Rattle.event_journal.specs.Logs.{of_tile}
use Rattle.journal_check.proofs.entries.from_next.Given as goal

abbrev pub invariant-loop-first : goal.invariant-loop-first
invariant-loop-first l = of_tile l.tile l.left ≡ of_tile l.tile l.records

abbrev pub decreases-loop-first : goal.decreases-loop-first
decreases-loop-first l = length l.left
