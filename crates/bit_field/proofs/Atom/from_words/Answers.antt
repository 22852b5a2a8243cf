use Rattle.std.proofs.Common.{rules}
use Rattle.bit_field.proofs.Atom.from_words.Goals as goal

pub returns-clause-value : goal.returns-clause-value
returns-clause-value c = search rules

pub returns-clause-words : goal.returns-clause-words
returns-clause-words c = search rules

pub returns-clause-only : goal.returns-clause-only
returns-clause-only c = search rules
