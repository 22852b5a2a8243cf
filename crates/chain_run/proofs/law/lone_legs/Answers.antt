use Rattle.chain_run.proofs.LoneLegs.{legs_lone}
use Rattle.chain_run.proofs.law.lone_legs.Goals as goal

pub returns : goal.returns
returns c = legs_lone
