use Rattle.ulam_lex.proofs.Numbers.{large_with}
use Rattle.ulam_lex.proofs.numeral.worth.Goals as goal

pub returns-in_err-value-clause-none : goal.returns-in_err-value-clause-none
returns-in_err-value-clause-none c =
    let large = c.in_err-value.ensures.none in
    rw c.from_residual.ensures (large_with c.args.base c.loop-digit.value c.loop-digit.digit-index c.args.digits.now c.loop-digit-test.true c.loop-digit.invariant.rest (rw c.radix.ensures at large))
