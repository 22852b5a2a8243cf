use Rattle.std.proofs.Common.{rules}
use Rattle.std.proofs.lemmas.Int.{ints}
use Rattle.sat_math.proofs.convert.low_bits.Goals as goal

pub returns-clause-value : goal.returns-clause-value
returns-clause-value c = search (ints, rules, c.rem_euclid.ensures)
