use Rattle.std.proofs.Common.{arith}
use Rattle.std.proofs.lemmas.Nat.{and_mask}
use Rattle.sat_math.proofs.Words.{cut_low, moved_out}
use Rattle.sat_math.proofs.bitwise.shl.Goals as goal

pub returns-clause-value : goal.returns-clause-value
returns-clause-value c = grind (arith, cut_low, moved_out, and_mask)

pub returns-clause-gone : goal.returns-clause-gone
returns-clause-gone c = grind (arith, cut_low, moved_out, and_mask)
