-- The events of a journal, tile by tile.
use Rattle.std.specs.Prelude.{ℕ, ◌≡◌, ◌<◌, List, [], length, slice_index_or}
use Rattle.cell_grid.specs.declared.record.Record.{Record}
use Rattle.event_journal.specs.Logs.{of_tile}

-- a list for each tile: its events, in the order of the journal
pub record AreByTile (tiles : ℕ) (records : List Record) (table : List (List Record)) : Type 0 where
  pub many : length table ≡ tiles
  pub each : (t : ℕ) → t < tiles → slice_index_or table t [] ≡ of_tile t records
