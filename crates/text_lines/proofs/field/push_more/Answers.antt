use Rattle.feast_base.proofs.Appending.{Appends-at_exit}
use Rattle.text_lines.proofs.field.push_more.Goals as goal

pub returns-in_err-push_next : goal.returns-in_err-push_next
returns-in_err-push_next c =
    Appends-at_exit _ c.args.out.now.items c.loop-field.out.items _ _ c.from_residual.result c.from_residual.ensures.1 c.loop-field.invariant.kept c.in_err-push_next.ensures
