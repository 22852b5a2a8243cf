use Rattle.std.proofs.Common.{◌≤◌, ◌*◌, All, length}
use Rattle.cases_order.specs.Plans.{IsWithin}
use Rattle.cases_order.proofs.plans.script.Given as goal

abbrev pub invariant-loop-t : goal.invariant-loop-t
invariant-loop-t l = record {
  few : length l.list.items ≤ l.t-index;
  within : All (IsWithin (l.shape.w * l.shape.h)) l.list.items;
}
