-- Reports that are read again.
use Rattle.std.specs.Prelude.{ℕ, ◌≡◌, ◌≤◌, ◌<◌, ◌*◌, List, All, Ok, length, sum_by, true}
use Rattle.draw_stream.specs.declared.attempt.Attempt.{Attempt}
use Rattle.draw_stream.specs.Plans.{PlanValue, attempts}
use Rattle.report_text.specs.Entries.{Entries, entries}
use Rattle.report_text.specs.Reading.{entries_said, read_report}
use Rattle.event_journal.specs.Serial.{OwesNothing}
use Rattle.feast_base.specs.TypeNames.{is_type_name}
use Rattle.tile_map.specs.Plane.{MapValue, IsMap, tiles_of}
use Rattle.report_text.specs.OneReport.{IsWord}
use Rattle.report_text.specs.Report.{AreNamed, ReportValue, report_of, shown_atoms}
use Rattle.feast_base.specs.declared.limits.TheConstants.{MOST_ATTEMPTS}

-- each is the name of a type
abbrev pub AreFormed : List (List ℕ) → Type 0
AreFormed names = All (λ n. is_type_name n ≡ true) names

-- an attempt at a position of a tile's rectangle, with a seed of 64 bits
abbrev pub IsDrawable : MapValue → Attempt → Type 0
IsDrawable m a = (a.centre < m.w * m.h) × IsWord a.seed

-- a plan for the tiles of a plane: each tile has its list of attempts, and there are at most
-- 1,000,000 in total
pub record IsDrawablePlan (m : MapValue) (plan : PlanValue) : Type 0 where
  pub map : IsMap m
  pub lists : length plan.lists ≡ tiles_of m
  pub few : sum_by length plan.lists ≤ MOST_ATTEMPTS
  pub attempts : (t : ℕ) → All (IsDrawable m) (attempts plan t)

-- what a run of a plan left, and what holds of it: a grid of the plane whose atoms are empty or
-- have a name, and a journal that owes nothing
pub record IsLeft (names : List (List ℕ)) (m : MapValue) (plan : PlanValue) (v : ReportValue) : Type 0 where
  pub wide : v.grid.width ≡ m.tx * m.w
  pub sites : length v.grid.atoms ≡ m.tx * m.w * (m.ty * m.h)
  pub named : AreNamed names v.grid.atoms
  pub owes : OwesNothing m plan v.records v.abandoned

-- the entries of a report: a site is shown if it is not empty
abbrev pub entries_in : ReportValue → Entries
entries_in v = entries (length (shown_atoms v.grid)) v.records v.abandoned

-- the text of a report says these entries
abbrev pub SaysThese : MapValue → List (List Attempt) → List ℕ → Entries → Type 0
SaysThese m lists bytes e = entries_said (read_report m lists bytes) ≡ Ok e

-- the report of whatever a run of the plan left says its entries
abbrev pub AreReadAgain : List (List ℕ) → MapValue → PlanValue → Type 0
AreReadAgain names m plan = (v : ReportValue) → IsLeft names m plan v → SaysThese m plan.lists (report_of names v) (entries_in v)
