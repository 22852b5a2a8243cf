use Rattle.std.proofs.Common.{◌≡◌, false, ◌==◌, arith, [], append-nil, sym}
use Rattle.std.proofs.lemmas.Bool.Decides.{nat_tests}
use Rattle.feast_base.proofs.Appending.{more_after, Appends-at_exit, Appends-then}
use Rattle.element_set.proofs.print.push_field.Goals as goal

pub returns-in_err-push : goal.returns-in_err-push
returns-in_err-push c =
    let exit = c.from_residual in
    Appends-at_exit _ _ c.args.out.now.items _ _ exit.result exit.ensures.1
    ([], sym (append-nil c.args.out.now.items))
    c.in_err-push.ensures

pub returns-in_err-push_spaced : goal.returns-in_err-push_spaced
returns-in_err-push_spaced c =
    let exit = c.from_residual-in_err-push_spaced in
    Appends-at_exit _ _ c.push.new.out.items _ _ exit.result exit.ensures.1
    (_, c.in_ok-push.ensures)
    c.in_err-push_spaced.ensures

pub returns-in_err-push_whole_type : goal.returns-in_err-push_whole_type
returns-in_err-push_whole_type c =
    let exit = c.from_residual-in_err-push_whole_type in
    Appends-at_exit _ _ c.push_spaced.new.out.items _ _ exit.result exit.ensures.1
    (more_after _ c.push.new.out.items _ (_, c.in_ok-push.ensures) (_, c.in_ok-push_spaced.ensures))
    c.in_err-push_whole_type.ensures

pub returns-in_err-push_number_spaced : goal.returns-in_err-push_number_spaced
returns-in_err-push_number_spaced c =
    let exit = c.from_residual-in_err-push_number_spaced in
    Appends-at_exit _ _ c.push_whole_type.new.out.items _ _ exit.result exit.ensures.1
    (more_after _ c.push_spaced.new.out.items _
    (more_after _ c.push.new.out.items _ (_, c.in_ok-push.ensures) (_, c.in_ok-push_spaced.ensures))
    (_, c.in_ok-push_whole_type.ensures))
    c.in_err-push_number_spaced.ensures

pub returns : goal.returns
returns c =
    let shown : (c.args.span.width == 0) ≡ false = grind (arith, nat_tests) in
    rw shown (Appends-then _ _ _ _ _ c.push_last.result c.in_ok-push.ensures
    (Appends-then _ _ _ _ _ c.push_last.result c.in_ok-push_spaced.ensures
    (Appends-then _ _ _ _ _ c.push_last.result c.in_ok-push_whole_type.ensures
    (Appends-then _ _ _ _ _ c.push_last.result c.in_ok-push_number_spaced.ensures
    c.push_last.ensures))))
