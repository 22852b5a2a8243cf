-- The flat grid of a plane without an atom, and the way to it.
use Rattle.std.specs.Prelude.{ℕ, ◌≡◌, ◌<◌, ◌*◌, ◌+◌, ◌||◌, ◌/◌, ◌%◌, false, map, replicate, slice_index_or, nat_le}
use Rattle.std.specs.List.{range_with_len}
use Rattle.bit_field.specs.Atom.{empty_atom}
use Rattle.cell_grid.specs.Grid.{GridValue, IsGrid}
use Rattle.tile_map.specs.Plane.{MapValue, Site, site, is_live, is_on, owner_of}

-- how many sites a plane has
abbrev pub plane_sites : MapValue → ℕ
plane_sites m = m.tx * m.w * (m.ty * m.h)

-- the site at a place in row order
abbrev pub site_at : MapValue → ℕ → Site
site_at m i = site (i % (m.tx * m.w)) (i / (m.tx * m.w))

-- a plane of empty sites, which are live where their tile is on
unfoldable pub blank_grid : MapValue → GridValue
blank_grid m = record {
  width = m.tx * m.w;
  height = m.ty * m.h;
  atoms = replicate (plane_sites m) empty_atom;
  live = map (λ i. is_live m (site_at m i)) (range_with_len 0 (plane_sites m));
}

-- a grid of the plane's size, all of whose sites are empty; of the tiles that are off only those
-- below n are shut
pub record IsShutTo (m : MapValue) (n : ℕ) (g : GridValue) : Type 0 where
  pub grid : IsGrid g
  pub wide : g.width ≡ m.tx * m.w
  pub high : g.height ≡ m.ty * m.h
  pub empty : g.atoms ≡ replicate (g.width * g.height) empty_atom
  pub live : (x y : ℕ) → x < g.width → y < g.height → slice_index_or g.live (y * g.width + x) false ≡ (nat_le n (owner_of m (site x y)) || is_on m (owner_of m (site x y)))
