-- What a finished journal and its abandoned attempts owe: each attempt is accounted for, the stamps are those of
-- Lamport's rule, and each abandoned attempt is excused.
use Rattle.std.specs.Prelude.{ℕ, ◌≡◌, ◌+◌, ◌≤◌, ◌<◌, ◌⊎◌, ◌==◌, Bool, ◌&&◌, ◌||◌, List, All, AllPairs, Contains, Some, count_by, filter, fold, length, max, slice_get, slice_index_or, take}
use Rattle.std.specs.List.{Any, list_any}
use Rattle.cell_grid.specs.declared.record.Record.{Record}
use Rattle.cell_grid.specs.Records.{Precedes}
use Rattle.draw_stream.specs.declared.attempt.Attempt.{Attempt}
use Rattle.draw_stream.specs.Plans.{PlanValue, attempts}
use Rattle.tile_map.specs.Plane.{MapValue, site, site_in}
use Rattle.tile_map.specs.Edges.{needs_of}
use Rattle.tile_map.specs.Laws.{Joins}
use Rattle.event_journal.specs.declared.abandoned.Abandoned.{Abandoned}
use Rattle.event_journal.specs.Logs.{ComesBefore}

-- how many of some events are attempt i of tile t
abbrev pub events_at : ℕ → ℕ → List Record → ℕ
events_at t i records = count_by (λ (r : Record). r.tile == t && r.attempt == i) records

-- how many of some abandoned attempts are attempt i of tile t
abbrev pub abandoned_at : ℕ → ℕ → List Abandoned → ℕ
abandoned_at t i abandoned = count_by (λ (a : Abandoned). a.tile == t && a.attempt == i) abandoned

-- the event of an attempt of its tile: its site is that of the attempt's centre, and its seed the attempt's
abbrev pub IsEventOf : MapValue → PlanValue → Record → Type 0
IsEventOf m plan r = (a : Attempt) × (slice_get (attempts plan r.tile) r.attempt ≡ Some a) × (site r.x r.y ≡ site_in m r.tile a.centre) × (r.seed ≡ a.seed)

-- an attempt of its tile that was given up, at the site of the attempt's centre
abbrev pub IsGivenUpOf : MapValue → PlanValue → Abandoned → Type 0
IsGivenUpOf m plan g = (a : Attempt) × (slice_get (attempts plan g.tile) g.attempt ≡ Some a) × (site g.x g.y ≡ site_in m g.tile a.centre)

-- each attempt of each tile has one entry, an event or an abandoned attempt, and there are no others; both lists are in
-- order, and of two events of one tile the one of the greater attempt has the greater stamp
pub record IsAccounted (m : MapValue) (plan : PlanValue) (records : List Record) (abandoned : List Abandoned) : Type 0 where
  pub once : (t i : ℕ) → i < length (attempts plan t) → events_at t i records + abandoned_at t i abandoned ≡ 1
  pub events : All (IsEventOf m plan) records
  pub given_up : All (IsGivenUpOf m plan) abandoned
  pub order : AllPairs Precedes records
  pub abandoned_order : AllPairs ComesBefore abandoned
  pub rising : (r s : Record) → Contains records r → Contains records s → r.tile ≡ s.tile → r.attempt < s.attempt → r.stamp < s.stamp

-- the edges that an event needs
abbrev pub edges_of : MapValue → Record → List ℕ
edges_of m r = needs_of m r.tile (site r.x r.y)

-- whether two events are linked: they are of one tile, or some edge is needed by both
abbrev pub are_linked : MapValue → Record → Record → Bool
are_linked m r s = r.tile == s.tile || list_any (λ e. list_any (λ f. f == e) (edges_of m s)) (edges_of m r)

-- the stamp of an event that comes after others: 1 more than the greatest of those that are linked
-- with it, or 1 if none is
unfoldable pub stamp_after : MapValue → List Record → Record → ℕ
stamp_after m before r = 1 + fold (λ greatest (s : Record). max greatest s.stamp) 0 (filter (are_linked m r) before)

-- each event has the stamp that those before it give
abbrev pub IsStamped : MapValue → List Record → Type 0
IsStamped m records = (k : ℕ) (d : Record) → k < length records → (slice_index_or records k d).stamp ≡ stamp_after m (take k records) (slice_index_or records k d)

-- tile t has an attempt i, and it needs the edge
abbrev pub Needs : MapValue → PlanValue → ℕ → ℕ → ℕ → Type 0
Needs m plan t i e = (a : Attempt) × (slice_get (attempts plan t) i ≡ Some a) × Contains (needs_of m t (site_in m t a.centre)) e

-- an attempt by its tile and its number there
pub record AttemptName : Type 0 where
  pub tile : ℕ
  pub number : ℕ

abbrev pub attempt_named : ℕ → ℕ → AttemptName
attempt_named tile number = record { tile = tile; number = number }

-- an event of the attempt
abbrev pub IsEventBy : AttemptName → Record → Type 0
IsEventBy a r = (r.tile ≡ a.tile) × (r.attempt ≡ a.number)

-- the attempt was given up at a greater edge than this one
abbrev pub IsGivenUpBeyond : ℕ → AttemptName → Abandoned → Type 0
IsGivenUpBeyond e a g = (g.tile ≡ a.tile) × (g.attempt ≡ a.number) × (e < g.edge)

-- an event of the tile that needs the edge
abbrev pub IsEventOn : MapValue → List Record → ℕ → ℕ → Record → Type 0
IsEventOn m records e t r = Contains records r × (r.tile ≡ t) × Contains (edges_of m r) e

-- on the edge, all events of the one tile before its attempt have smaller stamps than all events of the other tile from its attempt on
abbrev pub ComesFirst : MapValue → List Record → ℕ → AttemptName → AttemptName → Type 0
ComesFirst m records e one other = (r s : Record) → IsEventOn m records e one.tile r → IsEventOn m records e other.tile s →
    r.attempt < one.number → other.number ≤ s.attempt → r.stamp < s.stamp

-- the attempt that an abandoned one names as the holder of its edge
abbrev pub holder_of : Abandoned → AttemptName
holder_of g = attempt_named g.holder g.holder_attempt

-- an abandoned attempt is excused: it needs the edge, whose ends are its tile and the holder; the attempt that held the
-- edge needs it too, and is an event or was itself given up at a greater edge; and that attempt lies between the tile's
-- events on the edge before and after the abandoned attempt
pub record IsExcusedBy (m : MapValue) (plan : PlanValue) (records : List Record) (abandoned : List Abandoned) (g : Abandoned) : Type 0 where
  pub needs : Needs m plan g.tile g.attempt g.edge
  pub ends : Joins m g.edge g.tile g.holder
  pub held : Needs m plan g.holder g.holder_attempt g.edge
  pub owed : Any (IsEventBy (holder_of g)) records ⊎ Any (IsGivenUpBeyond g.edge (holder_of g)) abandoned
  -- the tile's events before its attempt come before the holder's from the named attempt on
  pub after : ComesFirst m records g.edge (attempt_named g.tile g.attempt) (holder_of g)
  -- the holder's events up to the named attempt come before the tile's after its own attempt
  pub before : ComesFirst m records g.edge (attempt_named g.holder (g.holder_attempt + 1)) (attempt_named g.tile (g.attempt + 1))

-- each abandoned attempt is excused
abbrev pub AreExcused : MapValue → PlanValue → List Record → List Abandoned → Type 0
AreExcused m plan records abandoned = All (IsExcusedBy m plan records abandoned) abandoned
