-- The plane: tx by ty tiles of w by h sites each, some of them off, their rectangles, and what a tile owns and holds.
use Rattle.std.specs.Prelude.{ℕ, ◌≡◌, ◌≤◌, ◌+◌, ◌-◌, ◌*◌, ◌/◌, ◌%◌, List, Bool, false, not, ◌&&◌, nat_le, nat_lt, length, map, flat_map, replicate, slice_index_or}
use Rattle.std.specs.List.{range_with_len, list_all}
use Rattle.tile_map.specs.declared.limits.TheConstants.{LEAST_SIDE, MOST_ACROSS, MOST_SIDE}

-- a site: x grows east, y grows south
pub record Site : Type 0 where
  pub x : ℕ
  pub y : ℕ

-- a plane: how many tiles there are in a row and in a column, how many sites a tile has in each, and for each tile whether it is off
pub record MapValue : Type 0 where
  pub tx : ℕ
  pub ty : ℕ
  pub w : ℕ
  pub h : ℕ
  pub off : List Bool

-- 1 to 8 tiles each way, of 8 to 64 sites each way
pub record AreSizes (tx ty w h : ℕ) : Type 0 where
  pub tx_low : 1 ≤ tx
  pub tx_high : tx ≤ MOST_ACROSS
  pub ty_low : 1 ≤ ty
  pub ty_high : ty ≤ MOST_ACROSS
  pub w_low : LEAST_SIDE ≤ w
  pub w_high : w ≤ MOST_SIDE
  pub h_low : LEAST_SIDE ≤ h
  pub h_high : h ≤ MOST_SIDE

-- the sizes of a plane, and one mark for each tile
pub record IsMap (m : MapValue) : Type 0 where
  pub sizes : AreSizes m.tx m.ty m.w m.h
  pub marks : length m.off ≡ m.tx * m.ty

-- a plane with these tiles off
abbrev pub plane_of : ℕ → ℕ → ℕ → ℕ → List Bool → MapValue
plane_of tx ty w h off = record { tx = tx; ty = ty; w = w; h = h; off = off }

-- a plane with no tile off
abbrev pub whole_plane : ℕ → ℕ → ℕ → ℕ → MapValue
whole_plane tx ty w h = plane_of tx ty w h (replicate (tx * ty) false)

abbrev pub site : ℕ → ℕ → Site
site x y = record { x = x; y = y }

-- tile t is in column t % tx and row t / tx of the tiles
abbrev pub tiles_of : MapValue → ℕ
tiles_of m = m.tx * m.ty

-- whether a tile is one of the plane's, and not off
abbrev pub is_on : MapValue → ℕ → Bool
is_on m t = nat_lt t (tiles_of m) && not (slice_index_or m.off t false)

-- whether no tile is off
abbrev pub is_whole : MapValue → Bool
is_whole m = list_all not m.off

-- whether the plane has the site
abbrev pub in_plane : MapValue → Site → Bool
in_plane m s = nat_lt s.x (m.tx * m.w) && nat_lt s.y (m.ty * m.h)

-- the tile whose rectangle has the site
abbrev pub owner_of : MapValue → Site → ℕ
owner_of m s = s.y / m.h * m.tx + s.x / m.w

-- whether the plane has the site and its tile is on
abbrev pub is_live : MapValue → Site → Bool
is_live m s = in_plane m s && is_on m (owner_of m s)

-- all sites, row by row
abbrev pub sites_of : MapValue → List Site
sites_of m = flat_map (λ y. map (λ x. site x y) (range_with_len 0 (m.tx * m.w))) (range_with_len 0 (m.ty * m.h))

-- a line is cut into parts of equal size: whether x lies in part a
abbrev pub is_inside : ℕ → ℕ → ℕ → Bool
is_inside size a x = nat_le (a * size) x && nat_lt x ((a + 1) * size)

-- whether x lies in part a or at most 4 beside it
abbrev pub is_around : ℕ → ℕ → ℕ → Bool
is_around size a x = nat_le (a * size) (x + 4) && nat_lt x ((a + 1) * size + 4)

-- whether parts a and b are the same or touch
abbrev pub is_meeting : ℕ → ℕ → ℕ → Bool
is_meeting size a b = nat_le (a * size) ((b + 1) * size) && nat_le (b * size) ((a + 1) * size)

-- whether the rectangle of tile t has the site
abbrev pub is_owned : MapValue → ℕ → Site → Bool
is_owned m t s = nat_lt t (tiles_of m) && (is_inside m.w (t % m.tx) s.x && is_inside m.h (t / m.tx) s.y)

-- the site at a position of tile t's rectangle, in row order
abbrev pub site_in : MapValue → ℕ → ℕ → Site
site_in m t k = site (t % m.tx * m.w + k % m.w) (t / m.tx * m.h + k / m.w)

-- whether the site is at most 4 columns and 4 rows outside t's rectangle
abbrev pub is_reached : MapValue → ℕ → Site → Bool
is_reached m t s = is_around m.w (t % m.tx) s.x && is_around m.h (t / m.tx) s.y

-- whether tile t holds the site: t is on, and the site is live and at most 4 columns and 4 rows outside t's rectangle
abbrev pub is_held : MapValue → ℕ → Site → Bool
is_held m t s = is_on m t && (is_live m s && is_reached m t s)

-- how far two coordinates are apart
abbrev pub apart : ℕ → ℕ → ℕ
apart a b = (a - b) + (b - a)

-- whether a site is a live one of the window at c
abbrev pub in_window : MapValue → Site → Site → Bool
in_window m c s = is_live m s && nat_le (apart c.x s.x + apart c.y s.y) 4
