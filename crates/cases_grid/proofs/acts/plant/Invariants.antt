use Rattle.cell_grid.specs.Grid.{ArePlanesAlike}
use Rattle.cases_grid.proofs.acts.plant.Given as goal

abbrev pub invariant-loop-x : goal.invariant-loop-x
invariant-loop-x l = ArePlanesAlike l.fn.grid l.grid
