use Rattle.std.proofs.Common.{refl}
use Rattle.ulam_types.proofs.parts.within_loop.Goals as goal

pub returns-else-scope : goal.returns-else-scope
returns-else-scope c = rw c.if-scope.false refl
