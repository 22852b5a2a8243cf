use Rattle.std.proofs.Common.{rules}
use Rattle.ulam_heirs.proofs.check.not_quark.Goals as goal

pub returns-else-is_quark : goal.returns-else-is_quark
returns-else-is_quark c = search rules
