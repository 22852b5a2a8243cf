use Rattle.std.proofs.Common.{refl}
use Rattle.ulam_types.proofs.lookup.same_class.Goals as goal

pub returns-in-Class : goal.returns-in-Class
returns-in-Class c = rw c.in-Class.is refl
