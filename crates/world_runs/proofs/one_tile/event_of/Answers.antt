use Rattle.std.proofs.Common.{rules}
use Rattle.world_runs.proofs.one_tile.event_of.Goals as goal

pub returns : goal.returns
returns c = search rules
