use Rattle.std.proofs.Common.{[], append-nil, sym}
use Rattle.feast_base.proofs.Appending.{more_after, Appends-at_exit, Appends-then}
use Rattle.feast_base.proofs.refusal_line.push_longer.Goals as goal

pub returns-in_err-push : goal.returns-in_err-push
returns-in_err-push c =
    let exit = c.from_residual in
    Appends-at_exit _ _ c.args.out.now.items _ _ exit.result exit.ensures.1
    ([], sym (append-nil c.args.out.now.items))
    c.in_err-push.ensures

pub returns-in_err-push-2 : goal.returns-in_err-push-2
returns-in_err-push-2 c =
    let exit = c.from_residual-in_err-push-2 in
    Appends-at_exit _ _ c.push.new.out.items _ _ exit.result exit.ensures.1
    (_, c.in_ok-push.ensures)
    c.in_err-push-2.ensures

pub returns-in_err-push_number : goal.returns-in_err-push_number
returns-in_err-push_number c =
    let exit = c.from_residual-in_err-push_number in
    Appends-at_exit _ _ c.push-2.new.out.items _ _ exit.result exit.ensures.1
    (more_after _ c.push.new.out.items _ (_, c.in_ok-push.ensures) (_, c.in_ok-push-2.ensures))
    c.in_err-push_number.ensures

pub returns : goal.returns
returns c =
    let r = c.push-3.result in
    Appends-then _ _ _ _ _ r c.in_ok-push.ensures (Appends-then _ _ _ _ _ r c.in_ok-push-2.ensures (Appends-then _ _ _ _ _ r c.in_ok-push_number.ensures c.push-3.ensures))
