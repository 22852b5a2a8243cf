-- The flat grid with which the run of a world starts.
use Rattle.std.specs.Prelude.{List, fold}
use Rattle.cell_grid.specs.Grid.{GridValue, with_site}
use Rattle.plane_grid.specs.BlankGrid.{blank_grid}
use Rattle.tile_map.specs.Plane.{MapValue}
use Rattle.world_text.specs.Named.{WorldValue}
use Rattle.world_text.specs.declared.world.Placed.{Placed}

-- the grid with one atom more
abbrev pub with_placed : GridValue → Placed → GridValue
with_placed g p = with_site g p.x p.y p.atom

-- the flat grid of a world's atoms
abbrev pub start_grid : MapValue → List Placed → GridValue
start_grid m atoms = fold with_placed (blank_grid m) atoms

-- the flat grid with which the run of a world starts
abbrev pub start_of : WorldValue → GridValue
start_of w = start_grid w.plane w.atoms
