use Rattle.std.proofs.Common.{rules}
use Rattle.ulam_parse.proofs.tables.level.Goals as goal

pub returns-in-Add-clause-value : goal.returns-in-Add-clause-value
returns-in-Add-clause-value c = search rules
