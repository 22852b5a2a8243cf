use Rattle.std.proofs.Common.{◌≡◌, ◌*◌, All, length}
use Rattle.cases_order.specs.Plans.{IsScript}
use Rattle.cases_order.proofs.plans.plan.Given as goal

abbrev pub invariant-loop-tile : goal.invariant-loop-tile
invariant-loop-tile l = record {
  count : length l.scripts.items ≡ l.tile;
  all : All (IsScript (l.shape.w * l.shape.h)) l.scripts.items;
}
