use Rattle.feast_run.proofs.GeneratedSource.Accepted.{accepted, two_names}
use Rattle.feast_run.proofs.law.wander_and_stone.Goals as goal

pub returns : goal.returns
returns c = record { accepted = accepted; names = two_names }
