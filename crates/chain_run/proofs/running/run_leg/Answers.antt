use Rattle.std.proofs.Common.{arith}
use Rattle.chain_run.proofs.running.run_leg.Goals as goal

pub ran_alone-requires-clause-alone : goal.ran_alone-requires-clause-alone
ran_alone-requires-clause-alone g c = omega (arith, c.tiles.ensures.count)

pub ran_together-requires-clause-several : goal.ran_together-requires-clause-several
ran_together-requires-clause-several g c = omega (arith, c.tiles.ensures.count)
