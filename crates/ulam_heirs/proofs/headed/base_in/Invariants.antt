use Rattle.std.proofs.Common.{◌≡◌, map, drop}
use Rattle.ulam_heirs.specs.Files.{base_at}
use Rattle.ulam_heirs.specs.Views.{base_view}
use Rattle.ulam_heirs.proofs.headed.base_in.Given as goal

abbrev pub invariant-loop-base : goal.invariant-loop-base
invariant-loop-base l = base_at l.place (map base_view l.bases) ≡ base_at l.place (map base_view (drop l.base-index l.bases))
