use Rattle.std.proofs.Common.{◌≡◌, ◌<◌, ◌^◌, drop}
use Rattle.ulam_lex.specs.Pieces.{radix_of, worth_after}
use Rattle.ulam_lex.proofs.numeral.worth.Given as goal

abbrev pub invariant-loop-digit : goal.invariant-loop-digit
invariant-loop-digit l = record {
  rest : worth_after (radix_of l.base) l.value (drop l.digit-index l.digits) ≡ worth_after (radix_of l.base) 0 l.digits;
  small : l.value < 2 ^ 32;
}
