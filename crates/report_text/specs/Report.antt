-- The text of a grid's atoms, and of a report.
use Rattle.std.specs.Prelude.{ℕ, ◌≡◌, ◌≤◌, ◌+◌, ◌/◌, ◌%◌, ◌==◌, ◌⊎◌, List, [], ◌∷◌, ◌++◌, All, codes, decimal, length, map, if◌then◌else◌}
use Rattle.feast_base.specs.TypeNames.{name_of}
use Rattle.bit_field.specs.Atom.{AtomValue, empty_atom}
use Rattle.cell_grid.specs.Grid.{GridValue}
use Rattle.cell_grid.specs.declared.record.Record.{Record}
use Rattle.event_journal.specs.declared.abandoned.Abandoned.{Abandoned}
use Rattle.event_journal.specs.Logs.{LogValue, abandoned_in, records_in}
use Rattle.report_text.specs.JournalText.{count_fields, record_lines, abandoned_lines}
use Rattle.feast_base.specs.Digits.{hex}
use Rattle.text_lines.specs.Lines.{text_of}

-- an atom and its site
pub record Shown : Type 0 where
  pub x : ℕ
  pub y : ℕ
  pub atom : AtomValue

abbrev pub shown_at : ℕ → ℕ → AtomValue → Shown
shown_at width i a = record { x = i % width; y = i / width; atom = a }

-- the atom of place i, if it is not empty
abbrev pub shown_one : ℕ → ℕ → AtomValue → List Shown
shown_one width i a = if a.kind == 0 then [] else shown_at width i a ∷ []

-- of the atoms of a plane of this width from place i on, those that are not empty, in row order
unfoldable pub shown_from : ℕ → ℕ → List AtomValue → List Shown
shown_from width i [] = []
shown_from width i (a ∷ more) = shown_one width i a ++ shown_from width (i + 1) more

-- the atoms of a grid that are not empty, with their sites, in row order
abbrev pub shown_atoms : GridValue → List Shown
shown_atoms g = shown_from g.width 0 g.atoms

-- an atom's line: its site, its name and its state
abbrev pub atom_fields : List (List ℕ) → Shown → List (List ℕ)
atom_fields names s = decimal s.x ∷ decimal s.y ∷ name_of names s.atom.kind ∷ hex 18 s.atom.state ∷ []

-- the number of atoms, and a line for each
abbrev pub atom_lines : List (List ℕ) → List Shown → List (List (List ℕ))
atom_lines names atoms = count_fields (codes "atoms") (length atoms) ∷ map (atom_fields names) atoms

-- the text of a grid's atoms
abbrev pub atoms_text : List (List ℕ) → GridValue → List ℕ
atoms_text names g = text_of (atom_lines names (shown_atoms g))

-- the text that shows a grid: the header and the atoms
abbrev pub grid_text : List (List ℕ) → GridValue → List ℕ
grid_text names g = codes "feast 1\n" ++ atoms_text names g

-- the lines of a report: its header, the atoms, the events, and the attempts that were given up
abbrev pub report_lines : List (List ℕ) → List Shown → List Record → List Abandoned → List (List (List ℕ))
report_lines names atoms records abandoned =
    (codes "feast" ∷ codes "1" ∷ []) ∷ (atom_lines names atoms ++ (record_lines records ++ abandoned_lines abandoned))

-- the text of a report
abbrev pub report : List (List ℕ) → GridValue → List Record → List Abandoned → List ℕ
report names g records abandoned = text_of (report_lines names (shown_atoms g) records abandoned)

-- each atom is empty or its type has a name
abbrev pub AreNamed : List (List ℕ) → List AtomValue → Type 0
AreNamed names atoms = All (λ (a : AtomValue). (a ≡ empty_atom) ⊎ ((1 ≤ a.kind) × (a.kind ≤ length names))) atoms

-- what a report shows: a grid, the events, and the attempts that were given up
pub record ReportValue : Type 0 where
  pub grid : GridValue
  pub records : List Record
  pub abandoned : List Abandoned

abbrev pub report_value : GridValue → List Record → List Abandoned → ReportValue
report_value g records abandoned = record { grid = g; records = records; abandoned = abandoned }

-- a grid, and the entries of the logs of a journal
abbrev pub of_logs : GridValue → List LogValue → ReportValue
of_logs g logs = report_value g (records_in logs) (abandoned_in logs)

-- the text of the report that shows these
abbrev pub report_of : List (List ℕ) → ReportValue → List ℕ
report_of names v = report names v.grid v.records v.abandoned
