use Rattle.std.proofs.Common.{◌<◌}
use Rattle.std.specs.List.{AllWithin}
use Rattle.cell_grid.specs.declared.record.Record.{Record}
use Rattle.journal_check.proofs.accounted.are_of_tiles.Given as goal

abbrev pub invariant-loop-entry : goal.invariant-loop-entry
invariant-loop-entry l = AllWithin (λ (r : Record). r.tile < l.tiles) l.records 0 l.entry-index
