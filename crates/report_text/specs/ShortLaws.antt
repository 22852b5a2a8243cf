-- What holds of short reports, and of reports in a row.
use Rattle.std.specs.Prelude.{ℕ, ◌≡◌, ◌+◌, ◌++◌, List, length}
use Rattle.draw_stream.specs.Plans.{PlanValue}
use Rattle.report_text.specs.Again.{IsLeft}
use Rattle.report_text.specs.First.{first_lines, first_report, later_reports}
use Rattle.report_text.specs.Report.{ReportValue, report_of, shown_atoms}
use Rattle.report_text.specs.Short.{short_report_of}
use Rattle.report_text.specs.Widened.{widened_text}
use Rattle.tile_map.specs.Plane.{MapValue}

-- the short report of what a run of the plan left stands for the whole one
abbrev pub StandsForWhole : List (List ℕ) → MapValue → PlanValue → Type 0
StandsForWhole names m plan = (v : ReportValue) → IsLeft names m plan v → widened_text m plan.lists (short_report_of names v) ≡ report_of names v

-- bytes that stand for the whole report of what a run of the plan left are its short report
abbrev pub IsTheShortOne : List (List ℕ) → MapValue → PlanValue → Type 0
IsTheShortOne names m plan = (bytes : List ℕ) (v : ReportValue) → IsLeft names m plan v → widened_text m plan.lists bytes ≡ report_of names v → bytes ≡ short_report_of names v

-- how many lines the report of these has
abbrev pub lines_in : ReportValue → ℕ
lines_in v = length (shown_atoms v.grid) + length v.records + length v.abandoned + 4

-- a text is the first report of itself and whatever follows it
pub record IsFirstReport (text : List ℕ) (lines : ℕ) (rest : List ℕ) : Type 0 where
  pub first : first_report (text ++ rest) ≡ text
  pub later : later_reports (text ++ rest) ≡ rest
  pub counted : first_lines (text ++ rest) ≡ lines

-- the whole report of what a run left, and its short one, are told from what follows them
pub record AreToldApart (names : List (List ℕ)) (v : ReportValue) (rest : List ℕ) : Type 0 where
  pub whole : IsFirstReport (report_of names v) (lines_in v) rest
  pub short : IsFirstReport (short_report_of names v) (lines_in v) rest

abbrev pub AreInARow : List (List ℕ) → MapValue → PlanValue → Type 0
AreInARow names m plan = (v : ReportValue) (rest : List ℕ) → IsLeft names m plan v → AreToldApart names v rest
