use Rattle.std.proofs.Common.{◌≤◌}
use Rattle.cases_base.proofs.calls.takes_each.Given as goal

abbrev pub invariant-loop-n : goal.invariant-loop-n
invariant-loop-n l = l.sink.faults ≤ l.n
