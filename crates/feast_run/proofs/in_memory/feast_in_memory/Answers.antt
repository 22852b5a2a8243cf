use Rattle.feast_run.proofs.NoFailures.{nothing_fails}
use Rattle.feast_run.specs.Promises.{both_held}
use Rattle.feast_run.proofs.in_memory.feast_in_memory.Goals as goal

pub returns-clause-nothing_fails : goal.returns-clause-nothing_fails
returns-clause-nothing_fails g c = nothing_fails _ (both_held c.args.shelf.now c.args.sink.now) (both_held c.feast.new.shelf c.feast.new.sink) c.feast.result c.feast.ensures.ends
