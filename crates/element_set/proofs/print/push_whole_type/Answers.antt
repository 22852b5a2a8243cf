use Rattle.std.proofs.Common.{◌++◌, ap, map, append_assoc, ◌∙◌, [], append-nil, sym}
use Rattle.feast_base.proofs.Appending.{Appends-at_exit, Appends-then}
use Rattle.ulam_tree.specs.TypedViews.{typed_class}
use Rattle.element_set.specs.CheckText.{length_text, type_text}
use Rattle.element_set.proofs.print.push_whole_type.Goals as goal

pub returns-in_err-push_type : goal.returns-in_err-push_type
returns-in_err-push_type c =
    let exit = c.from_residual in
    Appends-at_exit _ _ c.args.out.now.items _ _ exit.result exit.ensures.1
    ([], sym (append-nil c.args.out.now.items))
    c.in_err-push_type.ensures

pub returns-in_err-push_length : goal.returns-in_err-push_length
returns-in_err-push_length c =
    let exit = c.from_residual-in_err-push_length in
    Appends-at_exit _ _ c.push_type.new.out.items _ _ exit.result exit.ensures.1
    (_, c.in_ok-push_type.ensures)
    c.in_err-push_length.ensures

pub returns : goal.returns
returns c =
    let ty = type_text (map typed_class c.args.classes.now) c.args.ty in
    let both =
    c.in_ok-push_length.ensures
    ∙ ap (λ z. z ++ length_text c.args.length) c.in_ok-push_type.ensures
    ∙ append_assoc c.args.out.now.items ty (length_text c.args.length) in
    Appends-then _ _ _ _ _ c.push.result both c.push.ensures
