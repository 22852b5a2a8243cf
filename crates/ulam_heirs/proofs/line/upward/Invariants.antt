use Rattle.std.proofs.Common.{◌≡◌, ◌-◌, ◌++◌, length}
use Rattle.ulam_heirs.specs.Lines.{upward}
use Rattle.ulam_heirs.specs.Views.{base_in, upward_from}
use Rattle.ulam_heirs.proofs.line.upward.Given as goal

abbrev pub invariant-turns : goal.invariant-turns
invariant-turns l = upward (length l.bases) (base_in l.bases) l.class ≡ l.found.items ++ upward_from (l._turn-end - l._turn) (base_in l.bases) l.next
