use Rattle.world_text.proofs.Cut.{world_cuts}
use Rattle.world_text.specs.Values.{world_value}
use Rattle.world_text.proofs.law.reads_again.Goals as goal

pub returns-clause-cut : goal.returns-clause-cut
returns-clause-cut c = world_cuts c.args.names.now (world_value c.args.world.now) c.requires
