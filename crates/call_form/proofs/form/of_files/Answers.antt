use Rattle.std.proofs.Common.{arith, rules}
use Rattle.std.proofs.lemmas.Grind.{common_steps}
use Rattle.call_form.proofs.form.of_files.Goals as goal

pub returns-then-words-le-MOST_FILES-clause-value : goal.returns-then-words-le-MOST_FILES-clause-value
returns-then-words-le-MOST_FILES-clause-value c = grind (arith, common_steps)

pub returns-then-words-le-MOST_FILES-clause-few : goal.returns-then-words-le-MOST_FILES-clause-few
returns-then-words-le-MOST_FILES-clause-few c = search rules
