-- The summary of the run of a generated world.
use Rattle.std.specs.Prelude.{ℕ, ◌==◌, List, [], ◌∷◌, codes, count_by, length}
use Rattle.bit_field.specs.Atom.{AtomValue}
use Rattle.cell_grid.specs.Grid.{GridValue}
use Rattle.cell_grid.specs.declared.record.Record.{Record}
use Rattle.event_journal.specs.Logs.{LogValue, records_in, abandoned_in}
use Rattle.report_text.specs.JournalText.{count_fields}
use Rattle.event_journal.specs.declared.abandoned.Abandoned.{Abandoned}
use Rattle.text_lines.specs.Lines.{text_of}

-- how many atoms of a grid are of a type
abbrev pub count_kind : ℕ → GridValue → ℕ
count_kind kind g = count_by (λ (a : AtomValue). a.kind == kind) g.atoms

-- the world's number, how many events and abandoned attempts there were, and how many atoms of types 1 and 2 are left
abbrev pub summary : ℕ → GridValue → List Record → List Abandoned → List ℕ
summary number g records abandoned = text_of (
    count_fields (codes "gen") number
    ∷ count_fields (codes "records") (length records)
    ∷ count_fields (codes "abandoned") (length abandoned)
    ∷ count_fields (codes "Wander") (count_kind 1 g)
    ∷ count_fields (codes "Stone") (count_kind 2 g)
    ∷ [])

-- the summary of a run that left this grid and these logs
abbrev pub summary_of_logs : ℕ → GridValue → List LogValue → List ℕ
summary_of_logs number g logs = summary number g (records_in logs) (abandoned_in logs)
