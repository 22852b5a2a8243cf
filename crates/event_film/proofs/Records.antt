-- Reading a list of records.
use Rattle.std.proofs.Common.{ℕ, List, get_or}
use Rattle.cell_grid.specs.declared.record.Record.{Record}

-- record k of a list, or one of zeros
abbrev pub record_at : List Record → ℕ → Record
record_at records k = get_or records k (record { stamp = 0; tile = 0; attempt = 0; x = 0; y = 0; seed = 0 })
