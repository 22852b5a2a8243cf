use Rattle.ulam_heirs.proofs.Chains.{own_all, line_is, none_own}
use Rattle.ulam_heirs.proofs.law.one_line.Goals as goal

pub returns : goal.returns
returns c = record { own = λ heirs class h. own_all heirs h.0 class h.1; line = line_is; sound = none_own }
