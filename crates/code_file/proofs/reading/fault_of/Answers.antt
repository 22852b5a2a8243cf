use Rattle.std.proofs.Common.{refl}
use Rattle.code_file.proofs.reading.fault_of.Goals as goal

pub returns-in-Bad : goal.returns-in-Bad
returns-in-Bad c = rw c.in-Bad.is refl
