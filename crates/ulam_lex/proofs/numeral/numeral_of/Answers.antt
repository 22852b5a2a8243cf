use Rattle.std.proofs.Common.{◌≡◌, get_or, sym, ap, ◌∙◌, subst, arith}
use Rattle.std.specs.Prelude.{◌==◌}
use Rattle.ulam_lex.specs.Pieces.{IsNumeral, radix_of, worth_after}
use Rattle.ulam_lex.proofs.Numbers.{numeral_value}
use Rattle.ulam_lex.proofs.numeral.numeral_of.Goals as goal

pub unreachable-requires : goal.unreachable-requires
unreachable-requires c =
    let base = c.base_at-base.result in
    let own = numeral_value base c.args.text.now c.requires.0 c.requires.1 c.base_at-base.ensures c.requires.2 in
    let large = c.in-None.ensures.none in
    let small = c.requires.3 in
    omega (arith, own.0, ap (worth_after (radix_of base) 0) c.digits_at.ensures.digits)

pub returns : goal.returns
returns c =
    let base = c.base_at-base.result in
    let own = numeral_value base c.args.text.now c.requires.0 c.requires.1 c.base_at-base.ensures c.requires.2 in
    let value : c.requires.0 ≡ c.in-Some.value = own.0 ∙ sym (c.in-Some.ensures.some ∙ ap (worth_after (radix_of base) 0) c.digits_at.ensures.digits) in
    let unsigned : c.requires.1 ≡ c.starts_with.result = own.1 ∙ sym (c.starts_with.ensures ∙ ap (λ l. get_or l 0 0 == 117) c.digits_at.ensures.rest) in
    subst (λ v. IsNumeral c.args.text.now v c.starts_with.result) value (subst (λ u. IsNumeral c.args.text.now c.requires.0 u) unsigned c.requires.2)
