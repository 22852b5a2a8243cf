-- The events that need each edge, tile by tile: their attempts and their stamps.
use Rattle.std.specs.Prelude.{ℕ, ◌≡◌, ◌+◌, ◌*◌, ◌<◌, ◌≤◌, ◌==◌, Bool, ◌&&◌, List, [], ◌∷◌, ◌++◌, AllPairs, Contains, filter, length, map, slice_index_or, if◌then◌else◌}
use Rattle.std.specs.List.{AllWithin, list_any}
use Rattle.cell_grid.specs.declared.record.Record.{Record}
use Rattle.tile_map.specs.Plane.{MapValue, tiles_of}
use Rattle.tile_map.specs.Edges.{pairs_of}
use Rattle.journal_check.specs.Clocks.{needs_edge}
use Rattle.journal_check.specs.declared.mark.Mark.{Mark}

abbrev pub mark_of : Record → Mark
mark_of r = record { attempt = r.attempt; stamp = r.stamp }

-- whether an event is one of the tile and needs the edge
abbrev pub is_on_edge : MapValue → ℕ → ℕ → Record → Bool
is_on_edge m t e r = r.tile == t && needs_edge m e r

-- the marks of a tile's events that need an edge
abbrev pub marks_on : MapValue → ℕ → ℕ → List Record → List Mark
marks_on m t e records = map mark_of (filter (is_on_edge m t e) records)

-- the list of a table for an edge and a tile
abbrev pub marks_at : MapValue → List (List Mark) → ℕ → ℕ → List Mark
marks_at m table e t = slice_index_or table (e * tiles_of m + t) []

-- for each edge and each tile its marks
pub record AreMarks (m : MapValue) (records : List Record) (table : List (List Mark)) : Type 0 where
  pub many : length table ≡ length (pairs_of m) * tiles_of m
  pub each : (e t : ℕ) → e < length (pairs_of m) → t < tiles_of m → marks_at m table e t ≡ marks_on m t e records

-- whether list k of a table is that of tile t, one of n, at one of these edges
abbrev pub is_list_of : List ℕ → ℕ → ℕ → ℕ → Bool
is_list_of es n t k = list_any (λ e. e * n + t == k) es

-- a mark was appended to the chosen lists of a table
abbrev pub AddsMark : List (List Mark) → (ℕ → Bool) → Mark → List (List Mark) → Type 0
AddsMark old is_chosen mark new = (k : ℕ) → k < length old → slice_index_or new k [] ≡ slice_index_or old k [] ++ (if is_chosen k then mark ∷ [] else [])

-- the attempts and the stamps rise
abbrev pub Rises : Mark → Mark → Type 0
Rises a b = (a.attempt < b.attempt) × (a.stamp < b.stamp)

abbrev pub AreRising : List Mark → Type 0
AreRising marks = AllPairs Rises marks

-- the first n of some marks are of attempts before one, and the others are not
pub record IsSplit (marks : List Mark) (attempt k : ℕ) : Type 0 where
  pub bound : k ≤ length marks
  pub before : AllWithin (λ (a : Mark). a.attempt < attempt) marks 0 k
  pub from : AllWithin (λ (a : Mark). attempt ≤ a.attempt) marks k (length marks)

-- each of the first marks before an attempt has a smaller stamp than each of the second from another attempt on
abbrev pub AreApart : List Mark → ℕ → List Mark → ℕ → Type 0
AreApart first below second from = (a b : Mark) → Contains first a → Contains second b → a.attempt < below → from ≤ b.attempt → a.stamp < b.stamp

-- one of the marks is of the attempt
abbrev pub HasMark : List Mark → ℕ → Type 0
HasMark marks attempt = (a : Mark) × Contains marks a × (a.attempt ≡ attempt)
