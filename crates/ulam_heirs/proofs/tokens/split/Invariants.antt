use Rattle.std.proofs.Common.{length}
use Rattle.ulam_heirs.specs.Behind.{IsSplit}
use Rattle.ulam_heirs.proofs.Splits.{split_of}
use Rattle.ulam_heirs.proofs.tokens.split.Given as goal

abbrev pub decreases-loop-token : goal.decreases-loop-token
decreases-loop-token l = length l.rest

abbrev pub invariant-loop-token : goal.invariant-loop-token
invariant-loop-token l = IsSplit l.bytes l.tokens l.rest (split_of l.left.items l.bases.items l.virtuals.items) l.before
