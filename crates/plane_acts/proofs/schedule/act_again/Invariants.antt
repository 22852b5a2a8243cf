use Rattle.std.proofs.Common.{map, take}
use Rattle.std.specs.Prelude.{filter}
use Rattle.cell_grid.specs.Grid.{ArePlanesAlike}
use Rattle.plane_acts.specs.Schedules.{is_due}
use Rattle.plane_acts.specs.Steps.{AreDone}
use Rattle.plane_acts.proofs.schedule.act_again.Given as goal

abbrev pub invariant-loop-entry : goal.invariant-loop-entry
invariant-loop-entry l = record {
  acts : AreDone (map (λ e. e.act) (filter (is_due l.leg) (take l.entry-index l.every))) l.fn.words l.fn.grid l.words l.grid;
  plane : ArePlanesAlike l.fn.grid l.grid;
}
