use Rattle.std.proofs.Common.{◌≡◌, length}
use Rattle.event_journal.specs.Logs.{abandoned_by}
use Rattle.journal_check.proofs.entries.from_next_abandoned.Given as goal

abbrev pub invariant-loop-first : goal.invariant-loop-first
invariant-loop-first l = abandoned_by l.tile l.left ≡ abandoned_by l.tile l.abandoned

abbrev pub decreases-loop-first : goal.decreases-loop-first
decreases-loop-first l = length l.left
