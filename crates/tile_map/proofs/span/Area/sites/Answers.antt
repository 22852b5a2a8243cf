use Rattle.std.proofs.Common.{arith}
use Rattle.tile_map.proofs.Sharing.{times_low}
use Rattle.tile_map.proofs.span.Area.sites.Goals as goal

pub returns-clause-bound : goal.returns-clause-bound
returns-clause-bound c = times_low c.len.result c.len-2.result (omega arith) (omega arith)
