use Rattle.std.proofs.Common.{ℕ, ◌≡◌, ◌<◌, true}
use Rattle.event_journal.specs.Logs.{of_tile, abandoned_by}
use Rattle.draw_stream.specs.Plans.{attempts}
use Rattle.journal_check.specs.Entries.{are_entries}
use Rattle.journal_check.proofs.accounted.is_accounted.Given as goal

abbrev pub invariant-loop-tile : goal.invariant-loop-tile
invariant-loop-tile l = (t : ℕ) → t < l.tile → are_entries l.map t 0 (attempts l.plan t) (of_tile t l.records) (abandoned_by t l.abandoned) ≡ true
