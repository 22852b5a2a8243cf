use Rattle.std.specs.Prelude.{◌≡◌, ◌≤◌, length}
use Rattle.stack_code.specs.Valid.{same_kinds}
use Rattle.stack_code.specs.KindLists.{list_at}
use Rattle.stack_code.proofs.kind_lists.KindLists.same.Given as goal

abbrev pub invariant-loop-a : goal.invariant-loop-a
invariant-loop-a l = record {
  same : same_kinds (list_at l.self.nodes l.a) (list_at l.self.nodes l.b) ≡ same_kinds (list_at l.self.nodes l.fn.a) (list_at l.self.nodes l.fn.b);
  left : l.a ≤ length l.self.nodes;
  right : l.b ≤ length l.self.nodes;
}

abbrev pub decreases-loop-a : goal.decreases-loop-a
decreases-loop-a l = l.a
