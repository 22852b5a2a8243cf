use Rattle.std.proofs.Common.{ℕ, ◌<◌, get_or}
use Rattle.event_journal.specs.declared.abandoned.Abandoned.{Abandoned}
use Rattle.journal_check.specs.Excuses.{IsExcusedOn}
use Rattle.journal_check.proofs.excused.first_unexcused.Given as goal

abbrev pub invariant-loop-k : goal.invariant-loop-k
invariant-loop-k l = (i : ℕ) → i < l.k → (d : Abandoned) → IsExcusedOn l.map l.table.items l.abandoned (get_or l.abandoned i d)
