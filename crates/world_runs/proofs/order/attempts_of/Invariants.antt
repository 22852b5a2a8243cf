use Rattle.std.proofs.Common.{◌≡◌, ◌≤◌, length, take, sum_by}
use Rattle.world_runs.proofs.order.attempts_of.Given as goal

abbrev pub invariant-loop-tile : goal.invariant-loop-tile
invariant-loop-tile l = record {
  value : l.sum ≡ sum_by length (take l.tile l.plan.lists);
  most : l.sum ≤ 1000000;
}
