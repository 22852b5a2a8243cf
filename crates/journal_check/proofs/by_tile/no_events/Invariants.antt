use Rattle.std.proofs.Common.{◌≡◌, [], replicate}
use Rattle.journal_check.proofs.by_tile.no_events.Given as goal

abbrev pub invariant-loop-tile : goal.invariant-loop-tile
invariant-loop-tile l = l.table.items ≡ replicate l.tile []
