-- The judgement on a report, in one line.
use Rattle.std.specs.Prelude.{ℕ, ◌≡◌, ◌≢◌, List, [], ◌∷◌, codes, decimal}
use Rattle.cell_grid.specs.Records.{replay}
use Rattle.draw_stream.specs.Plans.{PlanValue}
use Rattle.event_journal.specs.Accounts.{IsAccounted, IsStamped}
use Rattle.event_journal.specs.Serial.{Course, OwesNothing}
use Rattle.report_text.specs.Entries.{Entries, abandoned_line, event_line}
use Rattle.report_text.specs.Report.{report}
use Rattle.text_lines.specs.Lines.{text_of}
use Rattle.tile_map.specs.Plane.{MapValue}
use Rattle.journal_check.specs.Clocks.{IsFirstMisstamped}
use Rattle.journal_check.specs.Excuses.{IsFirstUnexcused}
use Rattle.report_judge.specs.declared.judging.Judged.{Judged}
use Rattle.report_judge.specs.declared.judging.Judged.TheVariants.{Yes as Got, No}
use Rattle.report_judge.specs.declared.judgement.Judgement.{Judgement}
use Rattle.report_judge.specs.declared.judgement.Judgement.TheVariants.{Yes, NoAccounted, NoStamped, NoExcused, NoAtoms}

-- a course, with what the elements are called
pub record NamedCourse : Type 0 where
  pub course : Course
  pub names : List (List ℕ)

abbrev pub named_course : Course → List (List ℕ) → NamedCourse
named_course course names = record { course = course; names = names }

-- a report as it was read: the map and the plan that it was read by, its bytes, and the entries that these say
pub record ReadValue : Type 0 where
  pub map : MapValue
  pub plan : PlanValue
  pub bytes : List ℕ
  pub entries : Entries

abbrev pub read_value : MapValue → PlanValue → List ℕ → Entries → ReadValue
read_value map plan bytes entries = record { map = map; plan = plan; bytes = bytes; entries = entries }

-- the report of these events and abandoned attempts: its atoms are those that the events make of
-- the start
abbrev pub own_report : NamedCourse → Entries → List ℕ
own_report s e = report s.names (replay s.course.meaning s.course.start e.records) e.records e.abandoned

-- what a judgement of bytes that say these entries says is right
abbrev pub Judges : NamedCourse → List ℕ → Entries → Judgement → Type 0
Judges s bytes e Yes = OwesNothing s.course.map s.course.plan e.records e.abandoned × (bytes ≡ own_report s e)
Judges s bytes e NoAccounted = ¬ (IsAccounted s.course.map s.course.plan e.records e.abandoned)
Judges s bytes e (NoStamped line) = IsAccounted s.course.map s.course.plan e.records e.abandoned × ((k : ℕ) × IsFirstMisstamped s.course.map e.records k × (line ≡ event_line e k))
Judges s bytes e (NoExcused line) =
    IsAccounted s.course.map s.course.plan e.records e.abandoned × IsStamped s.course.map e.records × ((k : ℕ) × IsFirstUnexcused s.course.map s.course.plan e.records e.abandoned k × (line ≡ abandoned_line e k))
Judges s bytes e NoAtoms = OwesNothing s.course.map s.course.plan e.records e.abandoned × (bytes ≢ own_report s e)

-- the judgement that stands in an answer
abbrev pub judgement_of : Judged → Judgement
judgement_of (Got grid) = Yes
judgement_of (No judgement) = judgement

-- a judgement is right, and with yes comes the grid that the events make of the start
abbrev pub JudgesOn : NamedCourse → List ℕ → Entries → Judged → Type 0
JudgesOn s bytes e (Got grid) = Judges s bytes e Yes × (grid ≡ replay s.course.meaning s.course.start e.records)
JudgesOn s bytes e (No judgement) = Judges s bytes e judgement × (judgement ≢ Yes)

-- the words of a judgement
abbrev pub judgement_fields : Judgement → List (List ℕ)
judgement_fields Yes = codes "yes" ∷ []
judgement_fields NoAccounted = codes "no" ∷ codes "accounted" ∷ []
judgement_fields (NoStamped line) = codes "no" ∷ codes "stamped" ∷ decimal line ∷ []
judgement_fields (NoExcused line) = codes "no" ∷ codes "excused" ∷ decimal line ∷ []
judgement_fields NoAtoms = codes "no" ∷ codes "atoms" ∷ []

-- its line
abbrev pub judgement_text : Judgement → List ℕ
judgement_text j = text_of (judgement_fields j ∷ [])
