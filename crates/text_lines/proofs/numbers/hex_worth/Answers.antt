use Rattle.std.proofs.Common.{arith}
use Rattle.text_lines.proofs.Digits.{power_fits}
use Rattle.text_lines.proofs.numbers.hex_worth.Goals as goal

pub overflow_mul-value : goal.overflow_mul-value
overflow_mul-value c =
    let small = power_fits 16 c.loop-byte.value c.loop-byte.byte-index 15 (omega arith) c.loop-byte.invariant.small (omega (arith, c.requires)) in
    omega (arith, small)

pub overflow_add-value : goal.overflow_add-value
overflow_add-value c =
    let small = power_fits 16 c.loop-byte.value c.loop-byte.byte-index 15 (omega arith) c.loop-byte.invariant.small (omega (arith, c.requires)) in
    omega (arith, small, c.in_ok-value.ensures.small)
