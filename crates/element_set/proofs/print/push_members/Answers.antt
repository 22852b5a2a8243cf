use Rattle.std.proofs.Common.{arith}
use Rattle.feast_base.proofs.Appending.{Appends-at_exit}
use Rattle.element_set.proofs.print.push_members.Goals as goal

pub overflow_add-at : goal.overflow_add-at
overflow_add-at c = omega (arith, c.requires.few, c.loop-member.invariant.count)

pub returns-in_err-push_field : goal.returns-in_err-push_field
returns-in_err-push_field c =
    Appends-at_exit _ c.args.out.now.items c.loop-member.out.items _ _ c.from_residual.result c.from_residual.ensures.1 c.loop-member.invariant.kept c.in_err-push_field.ensures
