use Rattle.std.proofs.Common.{◌≡◌, ℕ}
use Rattle.cell_grid.specs.Grid.{ArePlanesAlike}
use Rattle.draw_stream.specs.Words.{tile_state}
use Rattle.plane_acts.specs.Acts.{area_of}
use Rattle.plane_acts.specs.Steps.{IsUpTo, sites_above}
use Rattle.plane_acts.proofs.act.Act.act_on.Given as goal

abbrev pub invariant-loop-y : goal.invariant-loop-y
invariant-loop-y l = record {
  step : (seed n : ℕ) → l.fn.words ≡ tile_state seed n → IsUpTo l.self (record { seed = seed; first = n; grid = l.fn.grid }) (sites_above (area_of l.self) l.y) l.words l.grid;
  plane : ArePlanesAlike l.fn.grid l.grid;
}
