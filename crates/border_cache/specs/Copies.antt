-- A tile's copy of the sites that it holds, and what the calls do to it.
use Rattle.std.specs.Prelude.{ℕ, ◌≡◌, ◌+◌, ◌-◌, ◌*◌, ◌/◌, ◌%◌, ◌<◌, ◌≤◌, if◌then◌else◌, true, false, List, length, slice_index_or, Option, Some, None}
use Rattle.edge_lock.specs.Edges.{registers_of}
use Rattle.bit_field.specs.Atom.{AtomValue, empty_atom}
use Rattle.window_sites.specs.Inner.{inner_place}
use Rattle.window_sites.specs.Window.{WindowValue, atom_at}
use Rattle.tile_map.specs.Plane.{Site, MapValue, IsMap, tiles_of, owner_of, is_live, is_held, in_window}
use Rattle.tile_map.specs.Spans.{left_of, right_of, top_of, bottom_of}
use Rattle.tile_map.specs.Edges.{window_site, has_end}
use Rattle.cell_grid.specs.Grid.{GridValue, site_atom}
use Rattle.edge_lock.specs.declared.history.Access.{Access}
use Rattle.edge_lock.specs.EndLists.{EndLists}
use Rattle.edge_lock.specs.EndValues.{EndValue}
use Rattle.border_cache.specs.Cells.{CellValue, cell_value, newer, newest}
use Rattle.border_cache.specs.Accesses.{Adds}
use Rattle.border_cache.specs.News.{IsRefresh, found_on, no_cell}
use Rattle.border_cache.specs.Windows.{has, centre_of, end_at, sites_on, border_at, AddsAll, PublishesAll, seen_on, is_shown}
use Rattle.tile_map.specs.declared.limits.TheConstants.{MOST_REACH}

-- a copy: the plane and the tile that it was made for, and a cell for each site of the rectangle that the tile reaches, row by row
pub record CacheValue : Type 0 where
  pub map : MapValue
  pub tile : ℕ
  pub cells : List CellValue

abbrev pub cache_of : MapValue → ℕ → List CellValue → CacheValue
cache_of map tile cells = record { map = map; tile = tile; cells = cells }

abbrev pub columns_of : MapValue → ℕ → ℕ
columns_of m t = right_of m t - left_of m t

abbrev pub rows_of : MapValue → ℕ → ℕ
rows_of m t = bottom_of m t - top_of m t

-- the place of a site in the rectangle that the tile reaches
abbrev pub place_held : MapValue → ℕ → Site → ℕ
place_held m t s = (s.y - top_of m t) * columns_of m t + (s.x - left_of m t)

-- the cell of a site that the tile holds
abbrev pub held_cell : CacheValue → Site → CellValue
held_cell v s = slice_index_or v.cells (place_held v.map v.tile s) no_cell

-- the cell of a site of a window, which may not be live
abbrev pub cell_for : CacheValue → Option Site → CellValue
cell_for v None = no_cell
cell_for v (Some s) = held_cell v s

-- the cells of the window at c, by the numbers of its sites
abbrev pub window_cells : CacheValue → Site → ℕ → CellValue
window_cells v c n = cell_for v (window_site v.map c n)

-- a site that the tile holds was given a cell, and no other site of the tile was
pub record Puts (s : Site) (cell : CellValue) (old new : CacheValue) : Type 0 where
  pub map : new.map ≡ old.map
  pub tile : new.tile ≡ old.tile
  pub here : held_cell new s ≡ cell
  pub others : (u : Site) → is_held old.map old.tile u ≡ true → (u ≡ s → ⊥) → held_cell new u ≡ held_cell old u

-- the same for a site of a window, which may not be live
abbrev pub PutsFor : Option Site → CellValue → CacheValue → CacheValue → Type 0
PutsFor None cell old new = new ≡ old
PutsFor (Some s) cell old new = Puts s cell old new

-- how a copy is kept: with the left column and the top row of the rectangle that the tile reaches, and its size
pub record IsCopy (v : CacheValue) (left top width height : ℕ) : Type 0 where
  pub valid : IsMap v.map
  pub inside : v.tile < tiles_of v.map
  pub left_is : left ≡ left_of v.map v.tile
  pub top_is : top ≡ top_of v.map v.tile
  pub width_is : width ≡ columns_of v.map v.tile
  pub height_is : height ≡ rows_of v.map v.tile
  pub narrow : columns_of v.map v.tile ≤ MOST_REACH
  pub short : rows_of v.map v.tile ≤ MOST_REACH
  pub count : length v.cells ≡ columns_of v.map v.tile * rows_of v.map v.tile

-- a copy of a grid's sites, each with stamp 0
pub record IsFirstCopy (m : MapValue) (t : ℕ) (g : GridValue) (v : CacheValue) : Type 0 where
  pub map : v.map ≡ m
  pub tile : v.tile ≡ t
  pub cells : (s : Site) → is_held m t s ≡ true → held_cell v s ≡ cell_value 0 (site_atom g s.x s.y)

-- the site is live, and the tile owns it
pub record IsCentre (m : MapValue) (t : ℕ) (c : Site) : Type 0 where
  pub live : is_live m c ≡ true
  pub owned : owner_of m c ≡ t

-- the tile holds the live sites of the window at c
abbrev pub HoldsWindow : MapValue → ℕ → Site → Type 0
HoldsWindow m t c = (n : ℕ) (s : Site) → n < 41 → window_site m c n ≡ Some s → is_held m t s ≡ true

-- a board's end is that of tile t of the plane's edges, with the numbers of registers that these have
pub record IsEndOf (m : MapValue) (t : ℕ) (end : EndValue) : Type 0 where
  pub tile_is : end.tile ≡ t
  pub registers_are : (e : ℕ) → has_end m t e ≡ true → end.registers e ≡ registers_of (sites_on m e)
  pub end_is : (e : ℕ) → has_end m t e ≡ true → end.end_of e ≡ end_at m t e

-- what site n of the window at c shows: the atom of the tile's cell, or the empty atom if the site is not shown
abbrev pub shown_atom : MapValue → CacheValue → Site → ℕ → AtomValue
shown_atom m v c n = if is_shown m c n then (window_cells v c n).atom else empty_atom

-- two copies differ at most at the live sites of the window at c
pub record DiffersIn (c : Site) (old new : CacheValue) : Type 0 where
  pub map : new.map ≡ old.map
  pub tile : new.tile ≡ old.tile
  pub others : (s : Site) → is_held old.map old.tile s ≡ true → in_window old.map c s ≡ false → held_cell new s ≡ held_cell old s

-- the live sites of the window at c have these cells, by their numbers, and nothing else changed
pub record Stores (c : Site) (cells : ℕ → CellValue) (old new : CacheValue) : Type 0 where
  pub differs : DiffersIn c old new
  pub done : (n : ℕ) (s : Site) → n < 41 → window_site old.map c n ≡ Some s → held_cell new s ≡ cells n

-- what a refresh changes: a tile's copy, and the lists of the tile's end of each edge
pub record CopyAt : Type 0 where
  pub cache : CacheValue
  pub lists : ℕ → EndLists

abbrev pub copy_at : CacheValue → (ℕ → EndLists) → CopyAt
copy_at cache lists = record { cache = cache; lists = lists }

abbrev pub at : CacheValue → EndValue → CopyAt
at cache end = copy_at cache end.lists

-- a refresh of the window at c from one edge: each live site has the newer of its own cell and the one that was seen
pub record Refreshes (c : Site) (e : ℕ) (old new : CopyAt) : Type 0 where
  pub more : List Access
  pub adds : Adds old.lists new.lists e more
  pub reads : IsRefresh (border_at old.cache.map old.cache.tile c e) more
  pub stores : Stores c (λ n. newer (window_cells old.cache c n) (found_on (border_at old.cache.map old.cache.tile c e) more n)) old.cache new.cache

-- a refresh of the window at c from these edges: each live site has the newest of its own cell and those that were seen
pub record Refreshed (c : Site) (edges : List ℕ) (old new : CopyAt) : Type 0 where
  pub more : ℕ → List Access
  pub adds : AddsAll old.lists new.lists edges more
  pub reads : (e : ℕ) → has e edges ≡ true → IsRefresh (border_at old.cache.map old.cache.tile c e) (more e)
  pub stores : Stores c (λ n. newest (window_cells old.cache c n) (seen_on old.cache.map old.cache.tile c more n edges)) old.cache new.cache

-- a publishing of the copy's cells of the window at c on these edges
abbrev pub Published : CacheValue → Site → List ℕ → EndValue → EndValue → Type 0
Published v c edges old new = PublishesAll (centre_of v.map v.tile c) edges (window_cells v c) old.lists new.lists

-- the live sites of the window at c have the atoms of an event's window and its stamp
abbrev pub Marked : Site → WindowValue → ℕ → CacheValue → CacheValue → Type 0
Marked c window stamp old new = Stores c (λ n. cell_value stamp (atom_at window n)) old new

-- the live sites of the window at c have their own atoms and an event's stamp
abbrev pub Stamped : Site → ℕ → CacheValue → CacheValue → Type 0
Stamped c stamp old new = Stores c (λ n. cell_value stamp (window_cells old c n).atom) old new

-- site n of the window at c is live, and the tile has its cell at place k
abbrev pub IsKeptAt : CacheValue → Site → ℕ → ℕ → Type 0
IsKeptAt v c n k = (s : Site) × (window_site v.map c n ≡ Some s) × (place_held v.map v.tile s ≡ k)

-- all sites of the window at c are live, and `low` is the place of the first of its nine rows and nine columns
pub record IsCorner (v : CacheValue) (c : Site) (low : ℕ) : Type 0 where
  pub wide : 9 ≤ columns_of v.map v.tile
  pub fits : low + 8 * columns_of v.map v.tile + 8 < length v.cells
  pub kept : (n : ℕ) → n < 41 → IsKeptAt v c n (inner_place low (columns_of v.map v.tile) n)

-- a rectangle of a grid
pub record Patch : Type 0 where
  pub left : ℕ
  pub top : ℕ
  pub width : ℕ
  pub height : ℕ

abbrev pub patch : ℕ → ℕ → ℕ → ℕ → Patch
patch left top width height = record { left = left; top = top; width = width; height = height }

-- the atom of place k of a rectangle of a grid
abbrev pub atom_in : GridValue → Patch → ℕ → AtomValue
atom_in g p k = site_atom g (p.left + k % p.width) (p.top + k / p.width)

-- the atoms of a rectangle of a grid, row by row
pub record AreAtomsIn (g : GridValue) (p : Patch) (atoms : List AtomValue) : Type 0 where
  pub count : length atoms ≡ p.width * p.height
  pub each : (k : ℕ) → k < p.width * p.height → slice_index_or atoms k empty_atom ≡ atom_in g p k

-- the cells of a rectangle of a grid, row by row, each with stamp 0
pub record IsFirstRectangle (g : GridValue) (p : Patch) (cells : List CellValue) : Type 0 where
  pub count : length cells ≡ p.width * p.height
  pub each : (k : ℕ) → k < p.width * p.height → slice_index_or cells k no_cell ≡ cell_value 0 (atom_in g p k)
