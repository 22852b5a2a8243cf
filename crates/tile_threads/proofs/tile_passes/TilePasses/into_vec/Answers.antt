use Rattle.std.proofs.Common.{rules}
use Rattle.tile_threads.proofs.tile_passes.TilePasses.into_vec.Goals as goal

pub returns : goal.returns
returns c = search rules
