use Rattle.std.proofs.Common.{rules}
use Rattle.feast_base.proofs.noted.keep.Goals as goal

pub returns-clause-ok : goal.returns-clause-ok
returns-clause-ok c = search rules
