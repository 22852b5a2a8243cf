use Rattle.std.proofs.Common.{refl}
use Rattle.ulam_tree.proofs.raw_build.pair.Goals as goal

pub returns : goal.returns
returns c = refl
