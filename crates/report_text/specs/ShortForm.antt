-- Short reports said as a form: which bytes are the short report of which entries.
use Rattle.std.specs.Prelude.{ℕ, ◌≡◌, ◌<◌, ◌^◌, ◌↔◌, List, ◌∷◌, ◌++◌, All, AllPairs, Ok, codes, length}
use Rattle.draw_stream.specs.Plans.{PlanValue}
use Rattle.event_journal.specs.declared.abandoned.Abandoned.{Abandoned}
use Rattle.report_text.specs.Entries.{Entries}
use Rattle.report_text.specs.JournalText.{count_fields}
use Rattle.report_text.specs.Reading.{entries_said, read_report}
use Rattle.report_text.specs.ReportForm.{Comes, IsInPlace, IsSiteLine, IsSmallAbandoned, IsSmallRecord}
use Rattle.report_text.specs.Short.{short_abandoned_lines, short_header, short_record_lines}
use Rattle.report_text.specs.Widened.{attempt_of, site_of, widened_text}
use Rattle.text_lines.specs.Lines.{text_of}
use Rattle.tile_map.specs.Plane.{MapValue, site}

-- the lines of a short report of these entries, if those of its sites have these fields
abbrev pub short_lines_of : List (List (List ℕ)) → Entries → List (List (List ℕ))
short_lines_of sites e = short_header ∷ ((count_fields (codes "atoms") e.sites ∷ sites) ++ (short_record_lines e.records ++ short_abandoned_lines e.abandoned))

-- an abandoned attempt at the site of the attempt that it names, by the plan; a short report has no site for it, and may name one
-- that the plan lacks, which has the site that `site_of` tells then
abbrev pub IsSited : MapValue → PlanValue → Abandoned → Type 0
IsSited m plan a = site a.x a.y ≡ site_of m a.tile (attempt_of m plan.lists a.tile a.attempt)

-- The bytes are the short report of these entries, by a map and a plan: all is as with a whole report, but that each entry has
-- its short line, and that the plan says the site of each abandoned attempt.
pub record IsShortReportOf (m : MapValue) (plan : PlanValue) (bytes : List ℕ) (e : Entries) : Type 0 where
  pub sites : List (List (List ℕ))
  pub text : bytes ≡ text_of (short_lines_of sites e)
  pub each : All IsSiteLine sites
  pub many : length sites ≡ e.sites
  pub small : All IsSmallRecord e.records
  pub placed : All (IsInPlace m plan) e.records
  pub order : AllPairs Comes e.records
  pub abandoned : All IsSmallAbandoned e.abandoned
  pub sited : All (IsSited m plan) e.abandoned
  -- the counts
  pub few_sites : e.sites < 2 ^ 32
  pub few_records : length e.records < 2 ^ 32
  pub few_abandoned : length e.abandoned < 2 ^ 32

-- bytes are read as entries, by way of the whole report for which they stand, exactly if they are their short report
abbrev pub AreShortReports : MapValue → PlanValue → Type 0
AreShortReports m plan = (bytes : List ℕ) (e : Entries) → (entries_said (read_report m plan.lists (widened_text m plan.lists bytes)) ≡ Ok e) ↔ IsShortReportOf m plan bytes e
