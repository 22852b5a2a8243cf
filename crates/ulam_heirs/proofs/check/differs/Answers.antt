use Rattle.std.proofs.Common.{rules}
use Rattle.ulam_heirs.proofs.check.differs.Goals as goal

pub returns-after-same_type : goal.returns-after-same_type
returns-after-same_type c = search rules
