-- How an abandoned attempt is excused, by the marks of its edge.
use Rattle.std.specs.Prelude.{ℕ, ◌≡◌, ◌+◌, ◌*◌, ◌<◌, ◌==◌, ◌&&◌, ◌||◌, ◌⊎◌, Bool, true, List, Contains, MatchOption, Option, length, nat_lt, slice_index_or}
use Rattle.std.specs.List.{HoldsAt, list_any}
use Rattle.cell_grid.specs.declared.record.Record.{Record}
use Rattle.draw_stream.specs.Plans.{PlanValue}
use Rattle.tile_map.specs.Plane.{MapValue, site, tiles_of}
use Rattle.tile_map.specs.Edges.{needs_of}
use Rattle.tile_map.specs.Laws.{Joins}
use Rattle.event_journal.specs.Accounts.{AreExcused, IsExcusedBy}
use Rattle.event_journal.specs.declared.abandoned.Abandoned.{Abandoned}
use Rattle.journal_check.specs.Marks.{AreApart, HasMark, marks_at}
use Rattle.journal_check.specs.declared.mark.Mark.{Mark}

-- an abandoned attempt of a tile of the map at a site of the plane
pub record IsAbandonedInside (m : MapValue) (g : Abandoned) : Type 0 where
  pub tile : g.tile < tiles_of m
  pub column : g.x < m.tx * m.w
  pub row : g.y < m.ty * m.h

-- whether an abandoned attempt comes before this attempt of the tile
abbrev pub is_earlier : ℕ → ℕ → Abandoned → Bool
is_earlier t i g = nat_lt g.tile t || (g.tile == t && nat_lt g.attempt i)

-- an attempt that is among the abandoned ones, or is not
abbrev pub IsFound : List Abandoned → ℕ → ℕ → Abandoned → Type 0
IsFound abandoned t i g = Contains abandoned g × (g.tile ≡ t) × (g.attempt ≡ i)

abbrev pub IsMissing : List Abandoned → ℕ → ℕ → Type 0
IsMissing abandoned t i = (g : Abandoned) → Contains abandoned g → g.tile ≡ t → g.attempt ≡ i → ⊥

-- whether an abandoned attempt needs the edge
abbrev pub abandoned_needs : MapValue → ℕ → Abandoned → Bool
abandoned_needs m e g = list_any (λ f. f == e) (needs_of m g.tile (site g.x g.y))

-- the attempt that held the edge is among the marks of its tile, or was itself given up at a greater edge and needs this one
abbrev pub WasHeld : MapValue → List Mark → List Abandoned → Abandoned → Type 0
WasHeld m marks abandoned g =
    HasMark marks g.holder_attempt ⊎ ((k : Abandoned) × IsFound abandoned g.holder g.holder_attempt k × (g.edge < k.edge) × (abandoned_needs m g.edge k ≡ true))

-- the excuse by the marks of the edge
pub record IsExcusedOn (m : MapValue) (table : List (List Mark)) (abandoned : List Abandoned) (g : Abandoned) : Type 0 where
  pub needs : abandoned_needs m g.edge g ≡ true
  pub ends : Joins m g.edge g.tile g.holder
  pub held : WasHeld m (marks_at m table g.edge g.holder) abandoned g
  pub after : AreApart (marks_at m table g.edge g.tile) g.attempt (marks_at m table g.edge g.holder) g.holder_attempt
  pub before : AreApart (marks_at m table g.edge g.holder) (g.holder_attempt + 1) (marks_at m table g.edge g.tile) (g.attempt + 1)

-- abandoned attempt k is the first that is not excused
pub record IsFirstUnexcused (m : MapValue) (plan : PlanValue) (records : List Record) (abandoned : List Abandoned) (k : ℕ) : Type 0 where
  pub within : k < length abandoned
  pub before : (i : ℕ) (d : Abandoned) → i < k → IsExcusedBy m plan records abandoned (slice_index_or abandoned i d)
  pub here : ¬ (HoldsAt (IsExcusedBy m plan records abandoned) abandoned k)

-- at None each abandoned attempt is excused, otherwise this is the first that is not
abbrev pub FirstUnexcused : MapValue → PlanValue → List Record → List Abandoned → Option ℕ → Type 0
FirstUnexcused m plan records abandoned found = MatchOption found (AreExcused m plan records abandoned) (IsFirstUnexcused m plan records abandoned)
