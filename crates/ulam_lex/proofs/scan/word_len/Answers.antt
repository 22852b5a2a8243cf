use Rattle.std.proofs.Common.{arith, rules}
use Rattle.std.proofs.lemmas.List.Sums.{prefix_len-le-length}
use Rattle.feast_base.specs.TypeNames.{is_word_byte}
use Rattle.ulam_lex.proofs.scan.word_len.Goals as goal

pub returns-clause-within : goal.returns-clause-within
returns-clause-within c = omega (arith, c.word_run.ensures, prefix_len-le-length is_word_byte c.args.bytes.now)

pub returns-clause-value : goal.returns-clause-value
returns-clause-value c = search rules
