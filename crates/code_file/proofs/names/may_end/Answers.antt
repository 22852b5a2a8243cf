use Rattle.std.proofs.Common.{refl}
use Rattle.code_file.proofs.names.may_end.Goals as goal

pub returns-in-OfFunction : goal.returns-in-OfFunction
returns-in-OfFunction c = rw (c.in-OfFunction.is, c.is_keyword.ensures) refl
