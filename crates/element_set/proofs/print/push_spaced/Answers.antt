use Rattle.std.proofs.Common.{[], append-nil, sym}
use Rattle.feast_base.proofs.Appending.{Appends-at_exit, Appends-then}
use Rattle.element_set.proofs.print.push_spaced.Goals as goal

pub returns-in_err-push : goal.returns-in_err-push
returns-in_err-push c =
    let exit = c.from_residual in
    Appends-at_exit _ _ c.args.out.now.items _ _ exit.result exit.ensures.1
    ([], sym (append-nil c.args.out.now.items))
    c.in_err-push.ensures

pub returns : goal.returns
returns c =
    Appends-then _ _ _ _ _ c.push-2.result c.in_ok-push.ensures
    c.push-2.ensures
