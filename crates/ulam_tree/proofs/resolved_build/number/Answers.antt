use Rattle.std.proofs.Common.{refl}
use Rattle.ulam_tree.proofs.resolved_build.number.Goals as goal

pub returns : goal.returns
returns c = refl
