use Rattle.plane_grid.specs.BlankGrid.{IsShutTo}
use Rattle.plane_grid.proofs.blank.blank_grid.Given as goal

abbrev pub invariant-loop-tile : goal.invariant-loop-tile
invariant-loop-tile l = IsShutTo l.map l.tile l.grid
