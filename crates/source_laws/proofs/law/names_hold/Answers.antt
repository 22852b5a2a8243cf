use Rattle.source_laws.proofs.Programs.{compilable}
use Rattle.source_laws.proofs.law.names_hold.Goals as goal

pub returns : goal.returns
returns c = λ s. compilable s.items s.classes s.tree s.resolved s.narrow s.typed
