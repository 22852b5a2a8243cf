use Rattle.std.proofs.Common.{◌≡◌, drop}
use Rattle.ulam_heirs.specs.Faults.{first_by, bad_override}
use Rattle.ulam_heirs.specs.Views.{heirs_of}
use Rattle.ulam_heirs.proofs.walk.first_found.Given as goal

abbrev pub invariant-loop-heir : goal.invariant-loop-heir
invariant-loop-heir l = record {
  first : first_by (bad_override (heirs_of l.heirs)) 0 (heirs_of l.heirs) ≡ first_by (bad_override (heirs_of l.heirs)) l.number (heirs_of (drop l.heir-index l.heirs));
  number : l.number ≡ l.heir-index;
}
