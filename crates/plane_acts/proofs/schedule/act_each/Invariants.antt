use Rattle.std.proofs.Common.{map, take}
use Rattle.cell_grid.specs.Grid.{ArePlanesAlike}
use Rattle.plane_acts.specs.Steps.{AreDone}
use Rattle.plane_acts.proofs.schedule.act_each.Given as goal

abbrev pub invariant-loop-entry : goal.invariant-loop-entry
invariant-loop-entry l = record {
  acts : AreDone (map (λ o. o.act) (take l.entry-index l.once)) l.fn.words l.fn.grid l.words l.grid;
  plane : ArePlanesAlike l.fn.grid l.grid;
}
