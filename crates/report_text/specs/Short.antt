-- Short reports: they leave out what the plan of a run says of its attempts. And reports of counts, which have no journal.
use Rattle.std.specs.Prelude.{ℕ, List, [], ◌∷◌, ◌++◌, codes, decimal, length, map}
use Rattle.cell_grid.specs.Grid.{GridValue}
use Rattle.cell_grid.specs.declared.record.Record.{Record}
use Rattle.event_journal.specs.declared.abandoned.Abandoned.{Abandoned}
use Rattle.report_text.specs.JournalText.{count_fields}
use Rattle.report_text.specs.Report.{ReportValue, atom_lines, shown_atoms}
use Rattle.text_lines.specs.Lines.{text_of}

-- an event: its stamp, its tile and the number of the tile's attempt
abbrev pub short_record_fields : Record → List (List ℕ)
short_record_fields r = decimal r.stamp ∷ decimal r.tile ∷ decimal r.attempt ∷ []

-- an abandoned attempt: its tile and number, the edge that was held, and which tile's attempt held it
abbrev pub short_abandoned_fields : Abandoned → List (List ℕ)
short_abandoned_fields a = decimal a.tile ∷ decimal a.attempt ∷ decimal a.edge ∷ decimal a.holder ∷ decimal a.holder_attempt ∷ []

-- the lines of the journal of a short report, as those of a whole one are
abbrev pub short_record_lines : List Record → List (List (List ℕ))
short_record_lines records = count_fields (codes "journal") (length records) ∷ map short_record_fields records

abbrev pub short_abandoned_lines : List Abandoned → List (List (List ℕ))
short_abandoned_lines abandoned = count_fields (codes "abandoned") (length abandoned) ∷ map short_abandoned_fields abandoned

-- the first line of a short report
abbrev pub short_header : List (List ℕ)
short_header = codes "feast" ∷ codes "2" ∷ []

-- the text of the short report that shows these
abbrev pub short_report : List (List ℕ) → GridValue → List Record → List Abandoned → List ℕ
short_report names g records abandoned =
    text_of (short_header ∷ (atom_lines names (shown_atoms g) ++ (short_record_lines records ++ short_abandoned_lines abandoned)))

abbrev pub short_report_of : List (List ℕ) → ReportValue → List ℕ
short_report_of names v = short_report names v.grid v.records v.abandoned

-- the lines of the journal of a report of counts: how many events there were, and how many abandoned attempts
abbrev pub counts_lines : ℕ → ℕ → List (List (List ℕ))
counts_lines events abandoned = count_fields (codes "journal") events ∷ count_fields (codes "abandoned") abandoned ∷ []

-- the text of the report that shows a grid, and counts
abbrev pub counts_report : List (List ℕ) → GridValue → ℕ → ℕ → List ℕ
counts_report names g events abandoned =
    text_of ((codes "feast" ∷ codes "3" ∷ []) ∷ (atom_lines names (shown_atoms g) ++ counts_lines events abandoned))
