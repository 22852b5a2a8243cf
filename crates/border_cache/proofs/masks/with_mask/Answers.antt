use Rattle.std.proofs.Common.{subst, sym}
use Rattle.std.specs.Prelude.{bit_and, bit_or}
use Rattle.std.specs.Int.{bit_not, w64}
use Rattle.border_cache.specs.Published.{IsWithMask}
use Rattle.border_cache.proofs.Words.{sets, clears}
use Rattle.border_cache.proofs.masks.with_mask.Goals as goal

pub returns-then-bit : goal.returns-then-bit
returns-then-bit c = subst (λ b. IsWithMask c.args.word c.args.mask b (bit_or c.args.word c.args.mask)) (sym c.if-bit.true) (sets c.args.word c.args.mask)

pub returns-else-bit : goal.returns-else-bit
returns-else-bit c = subst (λ b. IsWithMask c.args.word c.args.mask b (bit_and c.args.word (bit_not w64 c.args.mask))) (sym c.if-bit.false) (clears c.args.word c.args.mask c.ranges.mask.fits)
