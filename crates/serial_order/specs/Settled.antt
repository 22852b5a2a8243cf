-- The settled grid: at each live site the newest of its owner's cell and those of the owner's edges.
use Rattle.std.specs.Prelude.{ℕ, ◌≡◌, ◌<◌, ◌+◌, ◌*◌, List, [], ◌∷◌, true, Option, Some, None, slice_get}
use Rattle.tile_map.specs.Plane.{Site, MapValue, owner_of, is_live}
use Rattle.tile_map.specs.Edges.{edges_at}
use Rattle.cell_grid.specs.Grid.{GridValue, IsGrid, site_atom}
use Rattle.border_cache.specs.Cells.{CellValue, cell_of, newest}
use Rattle.plane_grid.specs.PlaneGrids.{IsGridOf}
use Rattle.border_cache.specs.Copies.{held_cell}
use Rattle.border_cache.specs.Windows.{and_cell, edge_place}
use Rattle.tile_core.specs.Values.{TileValue}

-- the cell that an edge's registers represent for the shared site at a place, if there is one
abbrev pub cell_in_registers : (ℕ → ℕ) → Option ℕ → Option CellValue
cell_in_registers registers None = None
cell_in_registers registers (Some k) = Some (cell_of (registers (1 + 2 * k)) (registers (2 + 2 * k)))

-- the cells that these edges have of a site, if they share it
abbrev pub edge_cells : MapValue → (ℕ → ℕ → ℕ) → List ℕ → Site → List CellValue
edge_cells m registers [] s = []
edge_cells m registers (e ∷ es) s = and_cell (cell_in_registers (registers e) (edge_place m e s)) (edge_cells m registers es s)

-- the newest of a tile's own cell and those of these edges
abbrev pub settled_cell : MapValue → (ℕ → ℕ → ℕ) → (Site → CellValue) → List ℕ → Site → CellValue
settled_cell m registers own es s = newest (own s) (edge_cells m registers es s)

-- the grid has at this site, if it is live, the atom of the newest of the owner's cell and those of the owner's edges
abbrev pub IsSettledAt : MapValue → List TileValue → (ℕ → ℕ → ℕ) → Site → GridValue → Type 0
IsSettledAt m tiles registers s g = (tile : TileValue) → is_live m s ≡ true → slice_get tiles (owner_of m s) ≡ Some tile → site_atom g s.x s.y ≡ (settled_cell m registers (held_cell tile.cache) (edges_at m (owner_of m s)) s).atom

-- a grid of the plane whose first n sites, row by row, are settled
pub record IsSettledTo (m : MapValue) (tiles : List TileValue) (registers : ℕ → ℕ → ℕ) (n : ℕ) (g : GridValue) : Type 0 where
  pub grid : IsGrid g
  pub fits : IsGridOf m g
  pub atoms : (s : Site) → s.y * g.width + s.x < n → IsSettledAt m tiles registers s g

-- a grid of the plane that is settled at each live site, and has nothing elsewhere
pub record IsSettled (m : MapValue) (tiles : List TileValue) (registers : ℕ → ℕ → ℕ) (g : GridValue) : Type 0 where
  pub grid : IsGrid g
  pub fits : IsGridOf m g
  pub atoms : (s : Site) → IsSettledAt m tiles registers s g
