-- What a map keeps: its edges by their ends, the edges and the areas of each tile, and for each edge the numbers of its
-- shared sites.
use Rattle.std.specs.Prelude.{ℕ, ◌≡◌, ◌≢◌, ◌+◌, ◌-◌, ◌*◌, ◌/◌, ◌%◌, ◌<◌, ◌≤◌, ◌==◌, ◌&&◌, List, Option, Some, None, length, map, filter, flat_map, position, slice_index_or}
use Rattle.std.specs.List.{range_with_len}
use Rattle.std.specs.Option.{option_and_then}
use Rattle.tile_map.specs.declared.span.Area.{Area}
use Rattle.tile_map.specs.declared.span.TileAreas.{TileAreas}
use Rattle.tile_map.specs.Plane.{Site, MapValue, IsMap, site, tiles_of, is_live}
use Rattle.tile_map.specs.Spans.{left_of, right_of, top_of, bottom_of, left_both, right_both, top_both, bottom_both, interior_low, interior_high, place_within}
use Rattle.tile_map.specs.Edges.{pairs_of, pair_at, shared_of, edges_at}
use Rattle.window_sites.specs.declared.window.TheConstants.{MOST_COLUMNS}

-- a row of n sites from x on
abbrev pub row : ℕ → ℕ → ℕ → List Site
row x n y = map (λ x. site x y) (range_with_len x n)

-- n by k sites from (x, y) on, row by row
abbrev pub block : ℕ → ℕ → ℕ → ℕ → List Site
block x n y k = flat_map (row x n) (range_with_len y k)

-- the sites of some columns and rows, row by row
abbrev pub sites_in : Area → List Site
sites_in a = block a.columns.first (a.columns.end - a.columns.first) a.rows.first (a.rows.end - a.rows.first)

-- the live ones among them
abbrev pub live_in : MapValue → Area → List Site
live_in m a = filter (is_live m) (sites_in a)

-- which of a list of sites it is
abbrev pub site_number : List Site → Site → Option ℕ
site_number ss s = position (λ p. p.x == s.x && p.y == s.y) ss

-- the live sites of an area: how many there are, and for each place of the area the number of its site among them
pub record SharedValue : Type 0 where
  pub area : Area
  pub numbers : List (Option ℕ)
  pub count : ℕ

abbrev pub shared_value : MapValue → Area → SharedValue
shared_value m a = record { area = a; numbers = map (site_number (live_in m a)) (sites_in a); count = length (live_in m a) }

-- the columns and rows end within the largest plane
pub record IsSmall (a : Area) : Type 0 where
  pub columns : a.columns.end ≤ MOST_COLUMNS
  pub rows : a.rows.end ≤ MOST_COLUMNS

-- the area itself where all its sites are live, and none where fewer are
abbrev pub IsWholeArea : SharedValue → Option Area → Type 0
IsWholeArea v None = v.count ≢ length (sites_in v.area)
IsWholeArea v (Some a) = (a ≡ v.area) × (v.count ≡ length (sites_in v.area)) × IsSmall a

-- the number of the site at (x, y)
abbrev pub number_at : SharedValue → ℕ → ℕ → Option ℕ
number_at v x y = option_and_then (λ k. slice_index_or v.numbers k None) (place_within v.area.columns.first v.area.columns.end v.area.rows.first v.area.rows.end x y)

-- the columns and rows that both of two tiles reach
abbrev pub area_both : MapValue → ℕ × ℕ → Area
area_both m p = record { columns = record { first = left_both m p; end = right_both m p }; rows = record { first = top_both m p; end = bottom_both m p } }

-- the sites that two neighbours share
abbrev pub shared_both : MapValue → ℕ × ℕ → SharedValue
shared_both m p = shared_value m (area_both m p)

-- the sites that an edge shares are those of an area, row by row; there is no such area where one of its sites is not live
abbrev pub IsSharedArea : MapValue → ℕ → Option Area → Type 0
IsSharedArea m e None = length (shared_of m e) < length (sites_in (area_both m (pair_at m e)))
IsSharedArea m e (Some a) = (shared_of m e ≡ sites_in a) × IsSmall a

-- the sites of tile t's rectangle with 8 or more columns and rows of it between them and each border beyond which the
-- plane goes on: an event there needs no edge
abbrev pub interior_of : MapValue → ℕ → Area
interior_of m t = record {
  columns = record { first = interior_low m.w (t % m.tx); end = interior_high m.tx m.w (t % m.tx) };
  rows = record { first = interior_low m.h (t / m.tx); end = interior_high m.ty m.h (t / m.tx) };
}

-- the sites of tile t's rectangle
abbrev pub own_of : MapValue → ℕ → Area
own_of m t = record {
  columns = record { first = t % m.tx * m.w; end = (t % m.tx + 1) * m.w };
  rows = record { first = t / m.tx * m.h; end = (t / m.tx + 1) * m.h };
}

-- the columns and rows that tile t reaches
abbrev pub reach_of : MapValue → ℕ → Area
reach_of m t = record { columns = record { first = left_of m t; end = right_of m t }; rows = record { first = top_of m t; end = bottom_of m t } }

abbrev pub areas_of : MapValue → ℕ → TileAreas
areas_of m t = record { own = own_of m t; interior = interior_of m t; reach = reach_of m t }

pub record Keeps (m : MapValue) (ends : List (ℕ × ℕ)) (around : List (List ℕ)) (tables : List SharedValue) (areas : List TileAreas) : Type 0 where
  pub valid : IsMap m
  pub pairs : ends ≡ pairs_of m
  pub lists : around ≡ map (edges_at m) (range_with_len 0 (tiles_of m))
  pub areas_are : areas ≡ map (areas_of m) (range_with_len 0 (tiles_of m))
  pub shared : tables ≡ map (shared_both m) (pairs_of m)
