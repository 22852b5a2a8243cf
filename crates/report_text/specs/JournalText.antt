-- The lines of a journal in a report.
use Rattle.std.specs.Prelude.{ℕ, List, [], ◌∷◌, ◌++◌, codes, decimal, length, map}
use Rattle.feast_base.specs.Digits.{hex}
use Rattle.text_lines.specs.Lines.{text_of}
use Rattle.cell_grid.specs.declared.record.Record.{Record}
use Rattle.event_journal.specs.declared.abandoned.Abandoned.{Abandoned}

-- a word and a count
abbrev pub count_fields : List ℕ → ℕ → List (List ℕ)
count_fields word n = word ∷ decimal n ∷ []

-- an event: its stamp, its tile and the number of the tile's attempt, its centre and its seed
abbrev pub record_fields : Record → List (List ℕ)
record_fields r = decimal r.stamp ∷ decimal r.tile ∷ decimal r.attempt ∷ decimal r.x ∷ decimal r.y ∷ hex 16 r.seed ∷ []

-- an abandoned attempt: its tile and number, its centre, the edge that was held, and which tile's attempt held it
abbrev pub abandoned_fields : Abandoned → List (List ℕ)
abandoned_fields a = decimal a.tile ∷ decimal a.attempt ∷ decimal a.x ∷ decimal a.y ∷ decimal a.edge ∷ decimal a.holder ∷ decimal a.holder_attempt ∷ []

-- the number of events, and a line for each
abbrev pub record_lines : List Record → List (List (List ℕ))
record_lines records = count_fields (codes "journal") (length records) ∷ map record_fields records

-- the number of attempts that were given up, and a line for each
abbrev pub abandoned_lines : List Abandoned → List (List (List ℕ))
abandoned_lines abandoned = count_fields (codes "abandoned") (length abandoned) ∷ map abandoned_fields abandoned

-- the text of a journal: its events, and then its abandoned attempts
abbrev pub journal_text : List Record → List Abandoned → List ℕ
journal_text records abandoned = text_of (record_lines records) ++ text_of (abandoned_lines abandoned)
