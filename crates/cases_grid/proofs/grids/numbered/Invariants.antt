use Rattle.std.proofs.Common.{◌≡◌}
use Rattle.cases_grid.proofs.grids.numbered.Given as goal

abbrev pub invariant-loop-place : goal.invariant-loop-place
invariant-loop-place g l = record {
  columns : l.grid.width ≡ 16;
  rows : l.grid.height ≡ 12;
}
