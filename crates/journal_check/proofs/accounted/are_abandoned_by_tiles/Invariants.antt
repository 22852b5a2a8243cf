use Rattle.std.proofs.Common.{◌<◌}
use Rattle.std.specs.List.{AllWithin}
use Rattle.event_journal.specs.declared.abandoned.Abandoned.{Abandoned}
use Rattle.journal_check.proofs.accounted.are_abandoned_by_tiles.Given as goal

abbrev pub invariant-loop-entry : goal.invariant-loop-entry
invariant-loop-entry l = AllWithin (λ (g : Abandoned). g.tile < l.tiles) l.abandoned 0 l.entry-index
