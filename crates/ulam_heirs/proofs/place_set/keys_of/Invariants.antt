use Rattle.std.proofs.Common.{take}
use Rattle.ulam_heirs.specs.PlaceSets.{AreIndexed}
use Rattle.ulam_heirs.proofs.place_set.keys_of.Given as goal

abbrev pub invariant-loop-place : goal.invariant-loop-place
invariant-loop-place l = AreIndexed l.keys.keys (take l.place-index l.places)
