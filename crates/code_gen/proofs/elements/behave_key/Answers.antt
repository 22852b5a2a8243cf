use Rattle.std.proofs.Common.{refl}
use Rattle.code_gen.proofs.elements.behave_key.Goals as goal

pub returns : goal.returns
returns c = rw c.behave_of.ensures refl
