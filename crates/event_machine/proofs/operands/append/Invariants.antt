use Rattle.std.specs.Prelude.{◌≡◌, ◌+◌, ◌-◌, ◌≤◌, ◌++◌, length, drop, vec_len, vec_capacity}
use Rattle.event_machine.proofs.operands.append.Given as goal

abbrev pub invariant-loop-x : goal.invariant-loop-x
invariant-loop-x l = record {
  rest : l.to.items ++ drop l.x-index l.from ≡ l.initial.to.items ++ l.from;
  room : vec_len l.to + (length l.from - l.x-index) ≤ vec_capacity l.to;
  same : vec_capacity l.to ≡ vec_capacity l.initial.to;
}
