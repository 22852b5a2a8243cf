use Rattle.cell_grid.specs.Grid.{ArePlanesAlike}
use Rattle.plane_acts.specs.Acts.{area_of, sites_before}
use Rattle.plane_acts.specs.Steps.{Start, IsUpTo, sites_above}
use Rattle.plane_acts.proofs.act.Act.act_in_row.Given as goal

abbrev pub invariant-loop-x : goal.invariant-loop-x
invariant-loop-x l = record {
  step : (s : Start) → IsUpTo l.self s (sites_above (area_of l.self) l.y) l.fn.words l.fn.grid → IsUpTo l.self s (sites_before (area_of l.self) l.x l.y) l.words l.grid;
  plane : ArePlanesAlike l.fn.grid l.grid;
}
