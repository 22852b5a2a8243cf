use Rattle.std.proofs.Common.{arith}
use Rattle.ulam_parse.proofs.tables.level_behind.Goals as goal

pub returns-clause-value : goal.returns-clause-value
returns-clause-value c = omega (arith, c.level.ensures.value)
