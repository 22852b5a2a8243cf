-- What a report says, and on which lines.
use Rattle.std.specs.Prelude.{ℕ, ◌+◌, List, length}
use Rattle.cell_grid.specs.declared.record.Record.{Record}
use Rattle.event_journal.specs.declared.abandoned.Abandoned.{Abandoned}

-- the events and the abandoned attempts of a report, and how many sites it shows
pub record Entries : Type 0 where
  pub sites : ℕ
  pub records : List Record
  pub abandoned : List Abandoned

abbrev pub entries : ℕ → List Record → List Abandoned → Entries
entries sites records abandoned = record { sites = sites; records = records; abandoned = abandoned }

-- the line of event k, from 0: before the lines of the events come the header, the count of sites, a
-- line for each of them, and the count of events
abbrev pub event_line : Entries → ℕ → ℕ
event_line e k = e.sites + 4 + k

-- the line of abandoned attempt k, from 0: behind the lines of the events comes the count of
-- abandoned attempts
abbrev pub abandoned_line : Entries → ℕ → ℕ
abandoned_line e k = e.sites + 5 + length e.records + k
