use Rattle.std.proofs.Common.{◌≡◌, length}
use Rattle.cases_tile.specs.Alone.{IsAlone}
use Rattle.cases_tile.proofs.alone.phases.Given as goal

abbrev pub invariant-loop-n : goal.invariant-loop-n
invariant-loop-n l = record {
  alone : IsAlone l.map l.tile.core l.board;
  long : length l.phases ≡ 9;
}
