use Rattle.ulam_heirs.proofs.Nearest.{nearest_once}
use Rattle.ulam_heirs.proofs.law.nearest_stands.Goals as goal

pub returns : goal.returns
returns c = λ line name h. nearest_once line name h.once h.virtual
