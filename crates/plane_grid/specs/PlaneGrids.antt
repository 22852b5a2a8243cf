-- Grids of a plane of tiles.
use Rattle.std.specs.Prelude.{ℕ, ◌≡◌, ◌<◌, ◌+◌, ◌*◌, false, slice_index_or}
use Rattle.tile_map.specs.Plane.{MapValue, site, is_live}
use Rattle.cell_grid.specs.Grid.{GridValue, IsGrid}

-- a grid of the plane's size, with its live sites
pub record IsGridOf (m : MapValue) (g : GridValue) : Type 0 where
  pub wide : g.width ≡ m.tx * m.w
  pub high : g.height ≡ m.ty * m.h
  pub live : (x y : ℕ) → x < g.width → y < g.height → slice_index_or g.live (y * g.width + x) false ≡ is_live m (site x y)

-- a grid of a plane
abbrev pub IsPlaneGrid : MapValue → GridValue → Type 0
IsPlaneGrid m g = IsGrid g × IsGridOf m g
