-- What a publishing and a refresh do at the shared sites of an edge, place by place.
use Rattle.std.specs.Prelude.{ℕ, ◌≡◌, ◌+◌, ◌-◌, ◌<◌, ◌≤◌, true, List, Some, slice_get}
use Rattle.tile_map.specs.Plane.{Site, MapValue, site, is_held}
use Rattle.tile_map.specs.Edges.{shared_of}
use Rattle.tile_map.specs.declared.span.Area.{Area}
use Rattle.edge_lock.specs.declared.history.Access.{Access}
use Rattle.edge_lock.specs.History.{found_value}
use Rattle.edge_lock.specs.EndLists.{writes_nothing}
use Rattle.border_cache.specs.declared.row_runs.Run.{Run}
use Rattle.border_cache.specs.Cells.{CellValue, newer}
use Rattle.border_cache.specs.declared.border.News.{News}
use Rattle.border_cache.specs.News.{Covers, FindsCell, IsOfCell, NewsIn, read_cell}
use Rattle.border_cache.specs.Windows.{IsNear, edge_place, place_in}
use Rattle.border_cache.specs.Copies.{CacheValue, cell_for, held_cell, Puts}

-- the sites of a run are shared sites of the edge, and the tile holds them
pub record IsSharedRun (v : CacheValue) (e : ℕ) (r : Run) : Type 0 where
  pub some : r.west < r.east
  pub shared : (u : ℕ) → r.west ≤ u → u < r.east → slice_get (shared_of v.map e) (r.start + (u - r.west)) ≡ Some (site u r.row)
  pub held : (u : ℕ) → r.west ≤ u → u < r.east → is_held v.map v.tile (site u r.row) ≡ true

-- place k is that of a site of a run in front of column `end`
abbrev pub IsInRun : Run → ℕ → ℕ → Type 0
IsInRun r end k = (r.start ≤ k) × (k < r.start + (end - r.west))

-- place k is that of a site of row j of the window at c
abbrev pub IsInRow : Area → Site → ℕ → ℕ → Type 0
IsInRow a c j k = (u : ℕ) × (v : ℕ) × IsNear a c k u v × (v + 4 ≡ c.y + j)

-- a site of the window at c is at place k of the edge
abbrev pub IsInWindowOf : MapValue → Site → ℕ → ℕ → Type 0
IsInWindowOf m c e k = Covers (place_in m c e) 41 k

-- site n of the window at c is at place k of the edge
abbrev pub IsPlaceOf : MapValue → Site → ℕ → ℕ → ℕ → Type 0
IsPlaceOf m c e n k = place_in m c e n ≡ Some k

-- the tile's cell of shared site k of the edge
abbrev pub shared_cell : CacheValue → ℕ → ℕ → CellValue
shared_cell v e k = cell_for v (slice_get (shared_of v.map e) k)

-- the site was given the newer of its own cell and another; its own, if both have one stamp
abbrev pub Renews : Site → CellValue → CacheValue → CacheValue → Type 0
Renews s cell old new = Puts s (newer (held_cell old s) (Some cell)) old new

-- the cells of these places of the edge are read, and each is taken if it is newer
pub record TakesAt (e : ℕ) (at : ℕ → Type 0) (old new : CacheValue) (accesses : List Access) : Type 0 where
  pub silent : writes_nothing accesses ≡ true
  pub found : (k : ℕ) → at k → FindsCell accesses k
  pub only : (register value : ℕ) → found_value accesses register ≡ Some value → (k : ℕ) × at k × IsOfCell k register
  pub map : new.map ≡ old.map
  pub tile : new.tile ≡ old.tile
  pub cells : (s : Site) → is_held old.map old.tile s ≡ true → held_cell new s ≡ newer (held_cell old s) (read_cell accesses (edge_place old.map e s))

-- the same, for those of the places that are news
abbrev pub TakesNews : News → (ℕ → Type 0) → CacheValue → CacheValue → List Access → Type 0
TakesNews news at old new = TakesAt news.border.edge (NewsIn news.words at) old new
