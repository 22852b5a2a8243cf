use Rattle.std.proofs.Common.{◌≡◌, ◌<◌, ◌^◌, length, get_or, sym, ap, ◌∙◌, arith}
use Rattle.std.specs.Prelude.{◌==◌, if◌then◌else◌}
use Rattle.std.proofs.lemmas.Bool.{eqb-true, eqb-false}
use Rattle.ulam_lex.specs.Pieces.{radix_of, worth_after}
use Rattle.ulam_lex.specs.Starts.{digit_count, body_of, digits_of}
use Rattle.ulam_lex.proofs.Numbers.{digits_length, number_start, large_start, bare_start}
use Rattle.ulam_lex.proofs.scan.number.Goals as goal

pub returns-then-is_empty : goal.returns-then-is_empty
returns-then-is_empty c =
    let base = c.base_at-base.result in
    let text = c.args.bytes.now in
    let counted = sym (digits_length base text) ∙ ap length (sym c.digits_at.ensures.digits) in
    let empty = eqb-true (length c.digits_at.result.0.now) 0 (sym c.is_empty.ensures ∙ c.if-is_empty.true) in
    rw c.prefix_len.ensures (bare_start base text c.requires.some c.requires.class c.base_at-base.ensures (counted ∙ empty))

pub returns-in-Some : goal.returns-in-Some
returns-in-Some c =
    let base = c.base_at-base.result in
    let text = c.args.bytes.now in
    let counted : length c.digits_at.result.0.now ≡ digit_count base (body_of base text) = ap length c.digits_at.ensures.digits ∙ digits_length base text in
    let empty = eqb-false (length c.digits_at.result.0.now) 0 (sym c.is_empty.ensures ∙ c.if-is_empty.false) in
    let some : 0 < digit_count base (body_of base text) = omega arith in
    let value = c.in-Some.ensures.some in
    let small : worth_after (radix_of base) 0 (digits_of base text) < 2 ^ 32 = omega (arith, value, ap (worth_after (radix_of base) 0) c.digits_at.ensures.digits) in
    let suffix = c.suffix_len.ensures ∙ ap (λ l. if (get_or l 0 0 == 117) then 1 else 0) c.digits_at.ensures.rest in
    rw (c.prefix_len-in-Some.ensures, counted, suffix) (number_start base text c.requires.class c.base_at-base.ensures some small)

pub returns-in-None : goal.returns-in-None
returns-in-None c =
    let base = c.base_at-base.result in
    let text = c.args.bytes.now in
    let counted : length c.digits_at.result.0.now ≡ digit_count base (body_of base text) = ap length c.digits_at.ensures.digits ∙ digits_length base text in
    let empty = eqb-false (length c.digits_at.result.0.now) 0 (sym c.is_empty.ensures ∙ c.if-is_empty.false) in
    let large = c.in-None.ensures.none in
    large_start base text c.base_at-base.ensures (omega arith) (omega (arith, large, ap (worth_after (radix_of base) 0) c.digits_at.ensures.digits))
