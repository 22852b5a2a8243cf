use Rattle.std.proofs.Common.{rules}
use Rattle.ulam_lex.proofs.numeral.with_digit.Goals as goal

pub returns-clause-some : goal.returns-clause-some
returns-clause-some c = search rules
