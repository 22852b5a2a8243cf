-- The sites of a window among the shared sites of an edge, and what a refresh does over all needed edges.
use Rattle.std.specs.Prelude.{ℕ, ◌≡◌, ◌+◌, ◌-◌, ◌*◌, ◌<◌, ◌≤◌, ◌⊎◌, ◌==◌, ◌&&◌, nat_le, List, [], ◌∷◌, length, Option, Some, None, MatchOption, position, is_some, Bool, true, false, if◌then◌else◌}
use Rattle.edge_lock.specs.declared.history.Access.{Access}
use Rattle.border_cache.specs.Published.{IsPublish}
use Rattle.edge_lock.specs.EndLists.{EndLists, known_value, IsHeld}
use Rattle.edge_lock.specs.Edges.{registers_of}
use Rattle.window_sites.specs.Window.{WindowValue, IsWindow, atom_at, live_at}
use Rattle.window_sites.specs.Sites.{offset_of, shift}
use Rattle.tile_map.specs.declared.span.Area.{Area}
use Rattle.border_cache.specs.declared.row_runs.Run.{Run}
use Rattle.tile_map.specs.Spans.{place_within}
use Rattle.tile_map.specs.Plane.{Site, MapValue, site, is_live, apart}
use Rattle.tile_map.specs.Edges.{shared_of, low_end, pairs_of, window_site}
use Rattle.border_cache.specs.Cells.{CellValue}
use Rattle.border_cache.specs.Accesses.{IsHonest, after_all}
use Rattle.border_cache.specs.News.{bit_in, WindowBorder, border, found_on}

-- whether e is one of the edges
abbrev pub has : ℕ → List ℕ → Bool
has e [] = false
has e (d ∷ ds) = if e == d then true else has e ds

-- the place of a site among those that an edge shares
abbrev pub edge_place : MapValue → ℕ → Site → Option ℕ
edge_place m e s = position (λ p. p.x == s.x && p.y == s.y) (shared_of m e)

abbrev pub edge_place_some : MapValue → ℕ → Option Site → Option ℕ
edge_place_some m e None = None
edge_place_some m e (Some s) = edge_place m e s

-- the place of site n of the window at c
abbrev pub place_in : MapValue → Site → ℕ → ℕ → Option ℕ
place_in m c e n = edge_place_some m e (window_site m c n)

-- the place of two coordinates in an area, row by row, if it has them
abbrev pub place_among : Area → Option ℕ → Option ℕ → Option ℕ
place_among a None v = None
place_among a (Some u) None = None
place_among a (Some u) (Some v) = place_within a.columns.first a.columns.end a.rows.first a.rows.end u v

-- the place of site n of the window at c in an area
abbrev pub place_at : Area → Site → ℕ → Option ℕ
place_at a c n = place_among a (shift c.x (offset_of n).0) (shift c.y (offset_of n).1)

-- place k of an area is that of (u, v), which is at most 4 from c
pub record IsNear (a : Area) (c : Site) (k u v : ℕ) : Type 0 where
  pub west : a.columns.first ≤ u
  pub east : u < a.columns.end
  pub north : a.rows.first ≤ v
  pub south : v < a.rows.end
  pub place : k ≡ (v - a.rows.first) * (a.columns.end - a.columns.first) + (u - a.columns.first)
  pub close : apart c.x u + apart c.y v ≤ 4

-- the sites of row j of the window at c that an area has are those of this run; the rows are counted from the north
pub record IsRunOf (a : Area) (c : Site) (j : ℕ) (r : Run) : Type 0 where
  pub row : r.row + 4 ≡ c.y + j
  pub some : r.west < r.east
  pub few : r.east ≤ r.west + 9
  pub near : (u : ℕ) → r.west ≤ u → u < r.east → IsNear a c (r.start + (u - r.west)) u r.row
  pub all : (k u v : ℕ) → IsNear a c k u v → v + 4 ≡ c.y + j → (r.west ≤ u) × (u < r.east) × (k ≡ r.start + (u - r.west))

-- the same, where the area may have none of them
abbrev pub IsRowRun : Area → Site → ℕ → Option Run → Type 0
IsRowRun a c j None = (k u v : ℕ) → IsNear a c k u v → v + 4 ≡ c.y + j → ⊥
IsRowRun a c j (Some r) = IsRunOf a c j r

-- the sites of the window at c that an area has are in the rows from `first` up to `end` and without it; the rows are
-- counted from the north
pub record AreRowsOf (a : Area) (c : Site) (first end : ℕ) : Type 0 where
  pub few : end ≤ 9
  pub rows : (k u v : ℕ) → IsNear a c k u v → (c.y + first ≤ v + 4) × (v + 4 < c.y + end)

-- the bits of row j of the window at c are set, by their places in an area, and no bit of a place that isn't near the
-- centre; the rows are counted from the north
pub record SetsRow (a : Area) (c : Site) (j : ℕ) (old new : List ℕ) : Type 0 where
  pub count : length new ≡ length old
  pub set : (k u v : ℕ) → IsNear a c k u v → v + 4 ≡ c.y + j → bit_in new k ≡ 1
  pub kept : (k : ℕ) → bit_in old k ≡ 1 → bit_in new k ≡ 1
  pub only : (k : ℕ) → bit_in new k ≡ 1 → (bit_in old k ≡ 1) ⊎ ((u : ℕ) × (v : ℕ) × IsNear a c k u v)

-- which end of the edge tile t is
abbrev pub end_at : MapValue → ℕ → ℕ → ℕ
end_at m t e = if low_end m e == t then 0 else 1

-- the edge's number of shared sites
abbrev pub sites_on : MapValue → ℕ → ℕ
sites_on m e = length (shared_of m e)

-- the tile has the edge, which has the registers of its shared sites
pub record IsEdgeFor (m : MapValue) (registers : ℕ → ℕ) (lists : ℕ → EndLists) (e : ℕ) : Type 0 where
  pub known : e < length (pairs_of m)
  pub registers_on : registers e ≡ registers_of (sites_on m e)
  pub held : IsHeld (lists e)

-- the open holds of these edges have these accesses more, and nothing else changed
pub record AddsAll (old new : ℕ → EndLists) (edges : List ℕ) (more : ℕ → List Access) : Type 0 where
  pub lists : (e : ℕ) → new e ≡ after_all (more e) (old e)
  pub honest : (e : ℕ) → IsHonest (known_value (old e)) (more e)
  pub only : (e : ℕ) → has e edges ≡ false → more e ≡ []

-- a cell before others, if there is one
abbrev pub and_cell : Option CellValue → List CellValue → List CellValue
and_cell None cells = cells
and_cell (Some cell) cells = cell ∷ cells

-- tile t's end of edge e, as the window at c meets it
abbrev pub border_at : MapValue → ℕ → Site → ℕ → WindowBorder
border_at m t c e = border (sites_on m e) (end_at m t e) (place_in m c e) 41

-- the cells that were seen at site n of the window, edge by edge
abbrev pub seen_on : MapValue → ℕ → Site → (ℕ → List Access) → ℕ → List ℕ → List CellValue
seen_on m t c more n [] = []
seen_on m t c more n (e ∷ es) = and_cell (found_on (border_at m t c e) (more e) n) (seen_on m t c more n es)

-- a site as the centre of a window: the plane, the tile whose site it is, and the site
pub record TileCentre : Type 0 where
  pub map : MapValue
  pub tile : ℕ
  pub site : Site

abbrev pub centre_of : MapValue → ℕ → Site → TileCentre
centre_of map tile site = record { map = map; tile = tile; site = site }

-- a publishing of the cells of the window at c on these edges
pub record PublishesAll (c : TileCentre) (edges : List ℕ) (cells : ℕ → CellValue) (lists lists' : ℕ → EndLists) : Type 0 where
  pub more : ℕ → List Access
  pub adds : AddsAll lists lists' edges more
  pub writes : (e : ℕ) → has e edges ≡ true → IsPublish (border_at c.map c.tile c.site e) cells (more e)

-- whether site n of the window is live
abbrev pub is_shown : MapValue → Site → ℕ → Bool
is_shown m c n = is_some (window_site m c n)

-- all sites of the window at c are live
abbrev pub IsWhole : MapValue → Site → Type 0
IsWhole m c = (n : ℕ) → n < 41 → is_shown m c n ≡ true

-- The test of the corners: (x ± 4, y ± 4) are live sites. Where it holds all sites of the window are live, but not the
-- reverse.
abbrev pub has_corners : MapValue → Site → Bool
has_corners m c = (nat_le 4 c.x && nat_le 4 c.y)
    && ((is_live m (site (c.x - 4) (c.y - 4)) && is_live m (site (c.x + 4) (c.y - 4))) && (is_live m (site (c.x - 4) (c.y + 4)) && is_live m (site (c.x + 4) (c.y + 4))))

-- the coordinates of the site, if there is one
abbrev pub GivesSite : Option (ℕ × ℕ) → Option Site → Type 0
GivesSite result s = MatchOption result (s ≡ None) (λ p. s ≡ Some (site p.0 p.1))

-- a window that shows the atoms of these cells at its live sites
pub record IsView (m : MapValue) (c : Site) (cells : ℕ → CellValue) (view : WindowValue) : Type 0 where
  pub valid : IsWindow view
  pub live : (n : ℕ) → n < 41 → live_at view n ≡ is_shown m c n
  pub atoms : (n : ℕ) → n < 41 → is_shown m c n ≡ true → atom_at view n ≡ (cells n).atom
