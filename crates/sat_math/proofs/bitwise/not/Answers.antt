use Rattle.std.proofs.Common.{arith, rules}
use Rattle.std.proofs.lemmas.Nat.{and_mask}
use Rattle.sat_math.proofs.Words.{complement_low}
use Rattle.sat_math.proofs.bitwise.not.Goals as goal

pub returns-clause-value : goal.returns-clause-value
returns-clause-value c = grind (arith, complement_low, and_mask)

pub returns-clause-bound : goal.returns-clause-bound
returns-clause-bound c = search rules
