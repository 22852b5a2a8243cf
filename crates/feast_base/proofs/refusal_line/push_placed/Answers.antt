use Rattle.std.proofs.Common.{[], append-nil, sym}
use Rattle.feast_base.proofs.Appending.{more_after, Appends-at_exit, Appends-then}
use Rattle.feast_base.proofs.refusal_line.push_placed.Goals as goal

pub returns-in_err-push_place : goal.returns-in_err-push_place
returns-in_err-push_place c =
    let exit = c.from_residual in
    Appends-at_exit _ _ c.args.out.now.items _ _ exit.result exit.ensures.1
    ([], sym (append-nil c.args.out.now.items))
    c.in_err-push_place.ensures

pub returns-in_err-push_code : goal.returns-in_err-push_code
returns-in_err-push_code c =
    let exit = c.from_residual-in_err-push_code in
    Appends-at_exit _ _ c.push_place.new.out.items _ _ exit.result exit.ensures.1
    (_, c.in_ok-push_place.ensures)
    c.in_err-push_code.ensures

pub returns-in_err-push_text : goal.returns-in_err-push_text
returns-in_err-push_text c =
    let exit = c.from_residual-in_err-push_text in
    Appends-at_exit _ _ c.push_code.new.out.items _ _ exit.result exit.ensures.1
    (more_after _ c.push_place.new.out.items _ (_, c.in_ok-push_place.ensures) (_, c.in_ok-push_code.ensures))
    c.in_err-push_text.ensures

pub returns : goal.returns
returns c =
    let r = c.push.result in
    Appends-then _ _ _ _ _ r c.in_ok-push_place.ensures
    (Appends-then _ _ _ _ _ r c.in_ok-push_code.ensures
    (Appends-then _ _ _ _ _ r c.in_ok-push_text.ensures
    c.push.ensures))
