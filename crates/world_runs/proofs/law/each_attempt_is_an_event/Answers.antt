use Rattle.world_runs.proofs.Alone.{owes_nothing}
use Rattle.world_runs.proofs.law.each_attempt_is_an_event.Goals as goal

pub returns : goal.returns
returns c = owes_nothing
