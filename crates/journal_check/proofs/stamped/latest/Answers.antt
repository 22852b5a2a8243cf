use Rattle.std.proofs.Common.{refl}
use Rattle.journal_check.proofs.stamped.latest.Goals as goal

pub loop-i-init : goal.loop-i-init
loop-i-init c = refl
