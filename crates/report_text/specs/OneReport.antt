-- Reports with equal bytes.
use Rattle.std.specs.Prelude.{ℕ, ◌≡◌, ◌≢◌, ◌^◌, ◌<◌, ◌≤◌, List, All, AllPairs, length, true}
use Rattle.bit_field.specs.Atom.{IsAtom}
use Rattle.cell_grid.specs.declared.record.Record.{Record}
use Rattle.event_journal.specs.Logs.{LogValue}
use Rattle.event_journal.specs.declared.abandoned.Abandoned.{Abandoned}
use Rattle.feast_base.specs.TypeNames.{is_type_name}
use Rattle.report_text.specs.Report.{AreNamed, ReportValue, report_of, shown_atoms}

-- names of types, no two of which are the same
pub record AreTypeNames (names : List (List ℕ)) : Type 0 where
  pub formed : All (λ n. is_type_name n ≡ true) names
  pub apart : AllPairs (λ (a b : List ℕ). a ≢ b) names

-- a number of at most 64 bits
abbrev pub IsWord : ℕ → Type 0
IsWord n = n < 2 ^ 64

abbrev pub AreRecordWords : Record → Type 0
AreRecordWords r = IsWord r.stamp × IsWord r.tile × IsWord r.attempt × IsWord r.x × IsWord r.y × IsWord r.seed

abbrev pub AreAbandonedWords : Abandoned → Type 0
AreAbandonedWords a = IsWord a.tile × IsWord a.attempt × IsWord a.x × IsWord a.y × IsWord a.edge × IsWord a.holder × IsWord a.holder_attempt

-- the entries of a log
abbrev pub AreWords : LogValue → Type 0
AreWords l = All AreRecordWords l.records × All AreAbandonedWords l.abandoned

-- what a report is made of: a grid of a width and this many sites, whose atoms are empty or have a
-- name, and entries of words
pub record IsReported (names : List (List ℕ)) (v : ReportValue) : Type 0 where
  pub wide : 1 ≤ v.grid.width
  pub sites : IsWord (length v.grid.atoms)
  pub named : AreNamed names v.grid.atoms
  pub states : All IsAtom v.grid.atoms
  pub records : All AreRecordWords v.records
  pub abandoned : All AreAbandonedWords v.abandoned
  pub many_records : IsWord (length v.records)
  pub many_abandoned : IsWord (length v.abandoned)

-- what two reports have in common: the atoms that are not empty with their sites, and so all atoms of grids of one size, the
-- events, and the attempts that were given up
pub record AreSame (one two : ReportValue) : Type 0 where
  pub sites : shown_atoms one.grid ≡ shown_atoms two.grid
  pub atoms : one.grid.width ≡ two.grid.width → length one.grid.atoms ≡ length two.grid.atoms → one.grid.atoms ≡ two.grid.atoms
  pub records : one.records ≡ two.records
  pub abandoned : one.abandoned ≡ two.abandoned

-- two reports with these names that are equal as texts say the same
abbrev pub IsOneReport : List (List ℕ) → Type 0
IsOneReport names = (one two : ReportValue) → IsReported names one → IsReported names two → report_of names one ≡ report_of names two → AreSame one two
