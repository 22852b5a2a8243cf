use Rattle.std.proofs.Common.{ap, length, arith}
use Rattle.std.proofs.lemmas.List.{length-reverse}
use Rattle.stack_code.specs.KindLists.{Lists}
use Rattle.stack_code.proofs.KindLists.{list_short}
use Rattle.stack_code.proofs.kind_lists.KindLists.push.Goals as goal

pub overflow_add-depth : goal.overflow_add-depth
overflow_add-depth c =
    omega (arith, c.depth-depth.ensures, list_short c.args.self.now.nodes c.args.id, ap (λ (l : Lists). length l.nodes) c.self.view_is, length-reverse c.self.inside.nodes.items, c.self.invariant.1, c.self.invariant.2)
