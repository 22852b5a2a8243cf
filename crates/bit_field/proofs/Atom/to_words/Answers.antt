use Rattle.std.proofs.Common.{rules}
use Rattle.bit_field.proofs.Atom.to_words.Goals as goal

pub returns-clause-words : goal.returns-clause-words
returns-clause-words c = search rules

pub returns-clause-back : goal.returns-clause-back
returns-clause-back c = search rules
