use Rattle.std.proofs.Common.{take}
use Rattle.journal_check.specs.ByTile.{AreByTile}
use Rattle.journal_check.proofs.by_tile.events_by_tile.Given as goal

abbrev pub invariant-loop-k : goal.invariant-loop-k
invariant-loop-k l = AreByTile l.tiles (take l.k l.records) l.table.items
