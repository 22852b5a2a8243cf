use Rattle.std.proofs.Common.{arith, get_or}
use Rattle.text_lines.proofs.Digits.{digit_in, passes, power_fits}
use Rattle.text_lines.specs.Fields.{is_digit}
use Rattle.chain_text.proofs.chance.worth.Goals as goal

pub overflow_mul-value : goal.overflow_mul-value
overflow_mul-value c =
    let small = power_fits 10 c.loop-digit.value c.loop-digit.digit-index 8 (omega arith) c.loop-digit.invariant.small (omega (arith, c.requires.few)) in
    omega (arith, small)

pub overflow_add-value : goal.overflow_add-value
overflow_add-value c =
    let small = power_fits 10 c.loop-digit.value c.loop-digit.digit-index 8 (omega arith) c.loop-digit.invariant.small (omega (arith, c.requires.few)) in
    let digit = digit_in (get_or c.args.digits.now c.loop-digit.digit-index 0) (passes is_digit c.args.digits.now c.loop-digit.digit-index 0 c.requires.digits c.loop-digit-test.true) in
    omega (arith, small, digit.0, digit.1)
