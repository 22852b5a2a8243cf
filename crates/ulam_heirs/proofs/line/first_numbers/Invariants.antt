use Rattle.std.proofs.Common.{◌≡◌, take}
use Rattle.ulam_heirs.specs.Firsts.{AreFirst}
use Rattle.ulam_heirs.specs.Views.{heirs_of}
use Rattle.ulam_heirs.proofs.line.first_numbers.Given as goal

abbrev pub invariant-loop-heir : goal.invariant-loop-heir
invariant-loop-heir l = record {
  first : AreFirst l.numbers.entries (heirs_of (take l.heir-index l.heirs));
  number : l.number ≡ l.heir-index;
}
