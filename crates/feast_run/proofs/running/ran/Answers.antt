use Rattle.std.proofs.Common.{arith}
use Rattle.feast_run.proofs.running.ran.Goals as goal

pub ran_alone-requires-clause-alone : goal.ran_alone-requires-clause-alone
ran_alone-requires-clause-alone g c = omega (arith, c.tiles_in.ensures)

pub ran_together-requires-clause-several : goal.ran_together-requires-clause-several
ran_together-requires-clause-several g c = omega (arith, c.tiles_in.ensures)
