use Rattle.std.specs.Prelude.{◌≡◌, ◌≤◌, length}
use Rattle.stack_code.specs.KindLists.{list_at, takes}
use Rattle.stack_code.proofs.exits.takes.Given as goal

abbrev pub invariant-loop-k : goal.invariant-loop-k
invariant-loop-k l = record {
  rest : takes l.k l.slots (list_at l.lists.nodes l.id) ≡ takes l.params l.slots (list_at l.lists.nodes l.fn.id);
  fits : l.id ≤ length l.lists.nodes;
}
