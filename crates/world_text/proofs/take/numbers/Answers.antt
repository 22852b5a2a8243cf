use Rattle.std.proofs.Common.{◌≡◌, ◌∷◌, ◌++◌, ap, sym, ◌∙◌, option_map, option_copied}
use Rattle.text_lines.specs.Fields.{args_of}
use Rattle.world_text.specs.Forms.{numbers_of}
use Rattle.world_text.proofs.Takes.{numbers_bad, numbers_more, numbers_end}
use Rattle.world_text.proofs.take.numbers.Goals as goal

pub returns-in_default-number : goal.returns-in_default-number
returns-in_default-number c =
    let left : args_of (option_copied c.loop-left.left) ≡ c.first_field.result.0.now ∷ args_of (option_copied c.first_field.result.1) = ap (λ o. args_of (option_copied o)) c.in-Some.is ∙ c.first_field.ensures.fields in
    sym (numbers_bad c.loop-left.found.items c.first_field.result.0.now (args_of (option_copied c.first_field.result.1)) (sym c.in_default-number.ensures))
    ∙ ap (λ fs. option_map (λ ns. c.loop-left.found.items ++ ns) (numbers_of fs)) (sym left) ∙ c.loop-left.invariant

pub loop-left-preserved : goal.loop-left-preserved
loop-left-preserved c =
    let left : args_of (option_copied c.loop-left.left) ≡ c.first_field.result.0.now ∷ args_of (option_copied c.first_field.result.1) = ap (λ o. args_of (option_copied o)) c.in-Some.is ∙ c.first_field.ensures.fields in
    numbers_more c.loop-left.found.items c.push.new.self.items c.first_field.result.0.now c.in-Some-number.n (args_of (option_copied c.first_field.result.1)) (sym c.in-Some-number.ensures) c.in_ok-push.ensures.items
    ∙ ap (λ fs. option_map (λ ns. c.loop-left.found.items ++ ns) (numbers_of fs)) (sym left) ∙ c.loop-left.invariant

pub returns : goal.returns
returns c =
    sym (numbers_end c.loop-left.found.items)
    ∙ ap (λ o. option_map (λ ns. c.loop-left.found.items ++ ns) (numbers_of (args_of (option_copied o)))) (sym c.in_default.is) ∙ c.loop-left.invariant
