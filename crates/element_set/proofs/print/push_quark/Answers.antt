use Rattle.std.proofs.Common.{[], append-nil, sym}
use Rattle.feast_base.proofs.Appending.{Appends-at_exit, Appends-then}
use Rattle.element_set.proofs.print.push_quark.Goals as goal

pub returns-in_err-push : goal.returns-in_err-push
returns-in_err-push c =
    let exit = c.from_residual in
    Appends-at_exit _ _ c.args.out.now.items _ _ exit.result exit.ensures.1
    ([], sym (append-nil c.args.out.now.items))
    c.in_err-push.ensures

pub returns-in_err-push_spaced : goal.returns-in_err-push_spaced
returns-in_err-push_spaced c =
    let exit = c.from_residual-in_err-push_spaced in
    Appends-at_exit _ _ c.push.new.out.items _ _ exit.result exit.ensures.1
    (_, c.in_ok-push.ensures)
    c.in_err-push_spaced.ensures

pub returns : goal.returns
returns c =
    Appends-then _ _ _ _ _ c.push_last.result c.in_ok-push.ensures
    (Appends-then _ _ _ _ _ c.push_last.result c.in_ok-push_spaced.ensures
    c.push_last.ensures)
