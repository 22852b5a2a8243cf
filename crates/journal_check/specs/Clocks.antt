-- The clocks of tiles and edges: the greatest stamps so far.
use Rattle.std.specs.Prelude.{ℕ, ◌≡◌, ◌≢◌, ◌*◌, ◌<◌, ◌==◌, Bool, true, false, List, [], ◌∷◌, ◌++◌, MatchOption, Option, filter, fold, length, max, slice_index, slice_index_or, take, if◌then◌else◌}
use Rattle.std.specs.List.{list_any}
use Rattle.cell_grid.specs.declared.record.Record.{Record}
use Rattle.tile_map.specs.Plane.{MapValue, tiles_of}
use Rattle.tile_map.specs.Edges.{pairs_of}
use Rattle.journal_check.specs.declared.stamped.Clocks.{Clocks}
use Rattle.event_journal.specs.Accounts.{IsStamped, edges_of, stamp_after}

-- an event of a tile of the map at a site of the plane
pub record IsInside (m : MapValue) (r : Record) : Type 0 where
  pub tile : r.tile < tiles_of m
  pub column : r.x < m.tx * m.w
  pub row : r.y < m.ty * m.h

-- whether an event needs the edge
abbrev pub needs_edge : MapValue → ℕ → Record → Bool
needs_edge m e r = list_any (λ f. f == e) (edges_of m r)

-- the greatest stamp of those events that pass a test, or 0 if none does
abbrev pub latest : (Record → Bool) → List Record → ℕ
latest p records = fold (λ greatest (s : Record). max greatest s.stamp) 0 (filter p records)

-- the clocks of tiles and those of edges
pub record ClocksValue : Type 0 where
  pub tiles : List ℕ
  pub edges : List ℕ

abbrev pub clocks_of : List ℕ → List ℕ → ClocksValue
clocks_of tiles edges = record { tiles = tiles; edges = edges }

abbrev pub clocks_value : Clocks → ClocksValue
clocks_value clocks = clocks_of clocks.tiles.items clocks.edges.items

-- a clock for each tile and for each edge: the greatest stamp of its events
pub record AreClocks (m : MapValue) (before : List Record) (clocks : ClocksValue) : Type 0 where
  pub many_tiles : length clocks.tiles ≡ tiles_of m
  pub many_edges : length clocks.edges ≡ length (pairs_of m)
  pub tile : (t : ℕ) → t < tiles_of m → slice_index clocks.tiles t ≡ latest (λ (s : Record). t == s.tile) before
  pub edge : (e : ℕ) → e < length (pairs_of m) → slice_index clocks.edges e ≡ latest (needs_edge m e) before

-- the clocks with those of some edges set
abbrev pub set_at : List ℕ → List ℕ → ℕ → List ℕ → Type 0
set_at old es stamp new = (e : ℕ) → e < length old → slice_index new e ≡ (if list_any (λ f. f == e) es then stamp else slice_index old e)

-- true if the event's stamp is the one that follows from those before, and then the clocks are
-- those after it; false if it is not
abbrev pub Ticks : MapValue → List Record → Record → ClocksValue → Bool → Type 0
Ticks m before r clocks true = (r.stamp ≡ stamp_after m before r) × AreClocks m (before ++ r ∷ []) clocks
Ticks m before r clocks false = r.stamp ≢ stamp_after m before r

-- whether the event's stamp is the one that follows; if it is, the clocks are those after it, whichever events they were of
abbrev pub TicksBy : MapValue → Record → ClocksValue → ClocksValue → Bool → Type 0
TicksBy m r old new ticked = (before : List Record) → AreClocks m before old → Ticks m before r new ticked

-- event k has the stamp that follows from those before it
abbrev pub HasStamp : MapValue → List Record → ℕ → Type 0
HasStamp m records k = (d : Record) → (slice_index_or records k d).stamp ≡ stamp_after m (take k records) (slice_index_or records k d)

-- event k is the first that has another stamp
pub record IsFirstMisstamped (m : MapValue) (records : List Record) (k : ℕ) : Type 0 where
  pub within : k < length records
  pub before : (i : ℕ) → i < k → HasStamp m records i
  pub here : ¬ (HasStamp m records k)

-- at None each event has its stamp, otherwise this is the first that has another
abbrev pub FirstMisstamped : MapValue → List Record → Option ℕ → Type 0
FirstMisstamped m records found = MatchOption found (IsStamped m records) (IsFirstMisstamped m records)
