use Rattle.std.proofs.Common.{◌≡◌, ℕ, Option, Some}
use Rattle.std.specs.Prelude.{slice_get}
use Rattle.ulam_heirs.specs.declared.fault.HeirsFault.{HeirsFault}
use Rattle.ulam_heirs.proofs.walk.start.Given as goal

abbrev pub invariant-loop-heir : goal.invariant-loop-heir
invariant-loop-heir l = (k : ℕ) (fault : Option HeirsFault) → slice_get l.found.items k ≡ Some (Some fault) → ⊥
