use Rattle.feast_base.proofs.Appending.{Appends-at_exit}
use Rattle.world_text.proofs.printed.push_tries.Goals as goal

pub returns-in_err-push_try : goal.returns-in_err-push_try
returns-in_err-push_try c =
    Appends-at_exit _ c.args.out.now.items c.loop-attempt.out.items _ _ c.from_residual.result c.from_residual.ensures.1 c.loop-attempt.invariant.kept c.in_err-push_try.ensures
