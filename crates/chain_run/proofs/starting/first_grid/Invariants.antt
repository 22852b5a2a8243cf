use Rattle.std.proofs.Common.{◌≡◌, drop, fold}
use Rattle.plane_grid.specs.PlaneGrids.{IsGridOf}
use Rattle.world_runs.specs.Start.{start_grid, with_placed}
use Rattle.chain_run.proofs.starting.first_grid.Given as goal

abbrev pub invariant-loop-placed : goal.invariant-loop-placed
invariant-loop-placed l = record {
  rest : fold with_placed l.grid (drop l.placed-index l.chain.atoms.items) ≡ start_grid l.chain.map l.chain.atoms.items;
  fits : IsGridOf l.chain.map l.grid;
}
