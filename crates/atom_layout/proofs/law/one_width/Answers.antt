use Rattle.atom_layout.proofs.Depth.{width_is}
use Rattle.atom_layout.proofs.law.one_width.Goals as goal

pub returns : goal.returns
returns c = width_is
