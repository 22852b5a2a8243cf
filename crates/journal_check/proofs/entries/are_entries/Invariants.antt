use Rattle.std.proofs.Common.{◌≡◌, ◌+◌, ◌*◌, ◌<◌, ◌^◌, All, length}
use Rattle.event_journal.specs.Logs.{of_tile, abandoned_by}
use Rattle.draw_stream.specs.declared.attempt.Attempt.{Attempt}
use Rattle.journal_check.specs.Entries.{are_entries}
use Rattle.journal_check.proofs.entries.are_entries.Given as goal

abbrev pub invariant-loop-attempt : goal.invariant-loop-attempt
invariant-loop-attempt l = record {
  few : l.number + length l.attempts < 2 ^ 32;
  centres : All (λ (a : Attempt). a.centre < l.map.w * l.map.h) l.attempts;
  rest : are_entries l.map l.tile l.number l.attempts (of_tile l.tile l.events) (abandoned_by l.tile l.gone) ≡ are_entries l.map l.tile 0 l.fn.attempts (of_tile l.tile l.fn.records) (abandoned_by l.tile l.fn.abandoned);
}

abbrev pub decreases-loop-attempt : goal.decreases-loop-attempt
decreases-loop-attempt l = length l.attempts
