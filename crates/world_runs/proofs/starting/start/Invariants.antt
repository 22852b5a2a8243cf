use Rattle.std.proofs.Common.{◌≡◌, drop, fold}
use Rattle.plane_grid.specs.PlaneGrids.{IsGridOf}
use Rattle.world_runs.specs.Start.{start_grid, with_placed}
use Rattle.world_text.specs.Values.{world_value}
use Rattle.world_runs.proofs.starting.start.Given as goal

abbrev pub invariant-loop-placed : goal.invariant-loop-placed
invariant-loop-placed l = record {
  rest : fold with_placed l.grid (drop l.placed-index l.world.atoms.items) ≡ start_grid (world_value l.world).plane l.world.atoms.items;
  fits : IsGridOf (world_value l.world).plane l.grid;
}
