use Rattle.std.proofs.Common.{◌≡◌, ◌+◌, suc, Some, position, ap, ◌∙◌, arith}
use Rattle.std.specs.Prelude.{option_map}
use Rattle.std.specs.Str.{bytes_eq}
use Rattle.element_set.proofs.Numbering.{number_is}
use Rattle.element_set.proofs.numbers.Numbers.number.Goals as goal

pub returns-in-Some : goal.returns-in-Some
returns-in-Some c =
    let name = c.args.name.now in
    let i = c.in-Some.index in
    let next : i + 1 ≡ suc i = omega arith in
    ap Some next ∙ ap (option_map (λ n. suc n)) (c.in-Some.ensures.index ∙ number_is name c.self.inside.set.keys ∙ ap (position (bytes_eq name)) c.self.view_is)

pub returns-in-None : goal.returns-in-None
returns-in-None c =
    let name = c.args.name.now in
    ap (option_map (λ n. suc n)) (c.in-None.ensures.index ∙ number_is name c.self.inside.set.keys ∙ ap (position (bytes_eq name)) c.self.view_is)
