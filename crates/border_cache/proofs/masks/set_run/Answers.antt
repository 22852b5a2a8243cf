use Rattle.std.proofs.Common.{arith}
use Rattle.border_cache.proofs.RunBits.{run_in_one, run_in_two}
use Rattle.border_cache.proofs.masks.set_run.Goals as goal

pub returns-then-over : goal.returns-then-over
returns-then-over c = run_in_two c.args.masks.now c.args.start c.args.end c.ones-bits.result c.ones-bits.ensures c.requires.some c.requires.short (omega (arith, c.requires.count, c.requires.few, c.if-over.true))

pub returns-else-over : goal.returns-else-over
returns-else-over c = run_in_one c.args.masks.now c.args.start c.args.end c.ones-bits.result c.ones-bits.ensures c.requires.some (omega (arith, c.requires.count, c.requires.few, c.requires.some)) (omega (arith, c.if-over.false))
