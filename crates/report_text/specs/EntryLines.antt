-- On which lines of a report its entries stand.
use Rattle.std.specs.Prelude.{ℕ, ◌≡◌, ◌-◌, List, Option, None, Some, slice_get, slice_index_or}
use Rattle.cell_grid.specs.declared.record.Record.{Record}
use Rattle.event_journal.specs.declared.abandoned.Abandoned.{Abandoned}
use Rattle.report_text.specs.Entries.{Entries, abandoned_line, event_line}
use Rattle.report_text.specs.JournalText.{abandoned_fields, record_fields}
use Rattle.text_lines.specs.Lines.{ended_lines, line_text}

-- the line of this number in a text, from 1, if it has its LF
abbrev pub line_at : List ℕ → ℕ → Option (List ℕ)
line_at bytes n = slice_index_or (ended_lines bytes) (n - 1) None

-- each event, and each abandoned attempt, stands on the line that is told of it
pub record AreOnLines (bytes : List ℕ) (e : Entries) : Type 0 where
  pub events : (k : ℕ) (r : Record) → slice_get e.records k ≡ Some r → line_at bytes (event_line e k) ≡ Some (line_text (record_fields r))
  pub abandoned : (k : ℕ) (a : Abandoned) → slice_get e.abandoned k ≡ Some a → line_at bytes (abandoned_line e k) ≡ Some (line_text (abandoned_fields a))
