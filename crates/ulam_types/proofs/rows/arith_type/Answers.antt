use Rattle.std.proofs.Common.{rules}
use Rattle.ulam_types.proofs.rows.arith_type.Goals as goal

pub returns-in-Int-Int : goal.returns-in-Int-Int
returns-in-Int-Int c = search rules
