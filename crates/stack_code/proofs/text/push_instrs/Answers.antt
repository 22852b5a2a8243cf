use Rattle.feast_base.proofs.Appending.{Appends-at_exit}
use Rattle.stack_code.proofs.text.push_instrs.Goals as goal

pub returns-in_err-push_instr : goal.returns-in_err-push_instr
returns-in_err-push_instr c =
    Appends-at_exit _ c.args.out.now.items c.loop-i.out.items _ _ c.from_residual.result c.from_residual.ensures.1 c.loop-i.invariant.kept c.in_err-push_instr.ensures
