use Rattle.std.proofs.Common.{rules, tests}
use Rattle.std.proofs.lemmas.Int.{ints}
use Rattle.sat_math.proofs.arithmetic.compare.Goals as goal

pub returns-in-Le-clause-value : goal.returns-in-Le-clause-value
returns-in-Le-clause-value c = search (ints, tests, rules)

pub returns-in-Le-clause-holds : goal.returns-in-Le-clause-holds
returns-in-Le-clause-holds c = search (ints, tests, rules)
