use Rattle.std.proofs.Common.{◌≡◌, ◌++◌, map, drop}
use Rattle.ulam_heirs.specs.Lines.{base_number}
use Rattle.ulam_heirs.specs.Views.{heirs_of, base_numbers}
use Rattle.ulam_heirs.proofs.line.base_numbers.Given as goal

abbrev pub invariant-loop-heir : goal.invariant-loop-heir
invariant-loop-heir l = base_numbers (heirs_of l.heirs) ≡ l.found.items ++ map (base_number (heirs_of l.heirs)) (heirs_of (drop l.heir-index l.heirs))
