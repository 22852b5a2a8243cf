-- Reports said as a form: which bytes are the report of which entries.
use Rattle.std.specs.Prelude.{ℕ, ◌≡◌, ◌≤◌, ◌<◌, ◌^◌, ◌↔◌, List, [], ◌∷◌, ◌++◌, All, AllPairs, Ok, codes, decimal, length, true}
use Rattle.cell_grid.specs.declared.record.Record.{Record}
use Rattle.draw_stream.specs.Plans.{PlanValue}
use Rattle.event_journal.specs.Accounts.{IsEventOf}
use Rattle.event_journal.specs.Logs.{is_before}
use Rattle.event_journal.specs.declared.abandoned.Abandoned.{Abandoned}
use Rattle.feast_base.specs.Digits.{hex}
use Rattle.feast_base.specs.TypeNames.{is_type_name}
use Rattle.report_text.specs.Entries.{Entries}
use Rattle.report_text.specs.JournalText.{abandoned_lines, count_fields, record_lines}
use Rattle.report_text.specs.Reading.{entries_said, read_report}
use Rattle.text_lines.specs.Lines.{text_of}
use Rattle.tile_map.specs.Plane.{MapValue, in_plane, owner_of, site}

-- the fields of a line of a site: its place, the name of a type, and a state in 18 hexadecimal digits
pub record IsSiteLine (fs : List (List ℕ)) : Type 0 where
  pub x : ℕ
  pub y : ℕ
  pub name : List ℕ
  pub state : ℕ
  pub line : fs ≡ decimal x ∷ decimal y ∷ name ∷ hex 18 state ∷ []
  pub small_x : x < 2 ^ 32
  pub small_y : y < 2 ^ 32
  pub named : is_type_name name ≡ true

-- an event whose numbers a line can have
pub record IsSmallRecord (r : Record) : Type 0 where
  pub stamp : r.stamp < 2 ^ 32
  pub tile : r.tile < 2 ^ 32
  pub attempt : r.attempt < 2 ^ 64
  pub x : r.x < 2 ^ 32
  pub y : r.y < 2 ^ 32
  pub seed : r.seed < 2 ^ 64

-- an abandoned attempt whose numbers a line can have
pub record IsSmallAbandoned (a : Abandoned) : Type 0 where
  pub tile : a.tile < 2 ^ 32
  pub attempt : a.attempt < 2 ^ 64
  pub x : a.x < 2 ^ 32
  pub y : a.y < 2 ^ 32
  pub edge : a.edge < 2 ^ 32
  pub holder : a.holder < 2 ^ 32
  pub holder_attempt : a.holder_attempt < 2 ^ 64

-- an event that fits a map and a plan: its stamp is at least 1, its site is on the plane and is its tile's, and it is the
-- event of the attempt that it names
pub record IsInPlace (m : MapValue) (plan : PlanValue) (r : Record) : Type 0 where
  pub some : 1 ≤ r.stamp
  pub on_plane : in_plane m (site r.x r.y) ≡ true
  pub owner : owner_of m (site r.x r.y) ≡ r.tile
  pub event : IsEventOf m plan r

-- an event that may come behind another: in the order of a journal, and of its tile with a greater attempt
abbrev pub Comes : Record → Record → Type 0
Comes r s = (is_before r s ≡ true) × (r.tile ≡ s.tile → r.attempt < s.attempt)

-- the lines of a report of these entries, if those of its sites have these fields
abbrev pub lines_of : List (List (List ℕ)) → Entries → List (List (List ℕ))
lines_of sites e =
    (codes "feast" ∷ codes "1" ∷ []) ∷ ((count_fields (codes "atoms") e.sites ∷ sites) ++ (record_lines e.records ++ abandoned_lines e.abandoned))

-- The bytes are the report of these entries, by a map and a plan: the text of the header, of the lines of sites, and of those
-- of the entries, each kind behind its count. The lines of sites have their form, the events fit the map and the plan, and
-- each may come behind those before it.
pub record IsReportOf (m : MapValue) (plan : PlanValue) (bytes : List ℕ) (e : Entries) : Type 0 where
  pub sites : List (List (List ℕ))
  pub text : bytes ≡ text_of (lines_of sites e)
  pub each : All IsSiteLine sites
  pub many : length sites ≡ e.sites
  pub small : All IsSmallRecord e.records
  pub placed : All (IsInPlace m plan) e.records
  pub order : AllPairs Comes e.records
  pub abandoned : All IsSmallAbandoned e.abandoned
  -- the counts
  pub few_sites : e.sites < 2 ^ 32
  pub few_records : length e.records < 2 ^ 32
  pub few_abandoned : length e.abandoned < 2 ^ 32

-- bytes are read as entries exactly if they are their report
abbrev pub AreReports : MapValue → PlanValue → Type 0
AreReports m plan = (bytes : List ℕ) (e : Entries) → (entries_said (read_report m plan.lists bytes) ≡ Ok e) ↔ IsReportOf m plan bytes e
