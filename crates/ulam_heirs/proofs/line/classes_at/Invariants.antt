use Rattle.std.proofs.Common.{◌≡◌, ◌++◌, drop}
use Rattle.ulam_heirs.specs.Lines.{classes_at}
use Rattle.ulam_heirs.specs.Views.{heirs_of}
use Rattle.ulam_heirs.proofs.line.classes_at.Given as goal

abbrev pub invariant-loop-number : goal.invariant-loop-number
invariant-loop-number l = classes_at (heirs_of l.heirs) l.numbers ≡ heirs_of l.found.items ++ classes_at (heirs_of l.heirs) (drop l.number-index l.numbers)
