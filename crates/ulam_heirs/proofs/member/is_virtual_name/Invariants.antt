use Rattle.std.proofs.Common.{◌≡◌, drop}
use Rattle.std.specs.List.{list_any}
use Rattle.ulam_heirs.specs.Flat.{says_virtual}
use Rattle.ulam_heirs.specs.Views.{heirs_of}
use Rattle.ulam_heirs.proofs.member.is_virtual_name.Given as goal

abbrev pub invariant-loop-heir : goal.invariant-loop-heir
invariant-loop-heir l = list_any (says_virtual l.name) (heirs_of l.heirs) ≡ list_any (says_virtual l.name) (heirs_of (drop l.heir-index l.heirs))
