use Rattle.std.proofs.Common.{[], append-nil, sym}
use Rattle.feast_base.proofs.Appending.{Appends-at_exit, Appends-then}
use Rattle.element_set.proofs.print.push_number_spaced.Goals as goal

pub returns-in_err-push_number : goal.returns-in_err-push_number
returns-in_err-push_number c =
    let exit = c.from_residual in
    Appends-at_exit _ _ c.args.out.now.items _ _ exit.result exit.ensures.1
    ([], sym (append-nil c.args.out.now.items))
    c.in_err-push_number.ensures

pub returns : goal.returns
returns c =
    let number = rw c.from.ensures at c.in_ok-push_number.ensures in
    Appends-then _ _ _ _ _ c.push.result number
    c.push.ensures
