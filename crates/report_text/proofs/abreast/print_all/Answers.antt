use Rattle.std.proofs.Common.{◌≡◌, ◌∙◌, arith, length, rules, sym}
use Rattle.std.proofs.lemmas.List.{same_lists}
use Rattle.report_text.proofs.abreast.print_all.Goals as goal

pub returns : goal.returns
returns g c =
    let long : length c.for_each_mut.new.s ≡ length c.args.parts.now = search rules in
    same_lists _ _ long (λ k d h.
    let at = (c.for_each_mut.ensures k d (omega (arith, h, long))).1 in
    let kept : at.after_call.now ≡ at.argument.now = search rules in
    sym at.left ∙ kept ∙ at.argument_is)
