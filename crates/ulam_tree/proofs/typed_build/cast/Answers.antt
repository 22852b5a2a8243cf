use Rattle.std.proofs.Common.{refl}
use Rattle.ulam_tree.proofs.typed_build.cast.Goals as goal

pub returns : goal.returns
returns c = refl
