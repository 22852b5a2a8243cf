use Rattle.std.proofs.Common.{◌≡◌, map, drop}
use Rattle.ulam_names.specs.Classes as walk
use Rattle.ulam_names.specs.Shown.{half_class}
use Rattle.ulam_names.proofs.whole.all_behave.Given as goal

abbrev pub invariant-loop-class : goal.invariant-loop-class
invariant-loop-class l = walk.all_behave (map half_class l.classes) ≡ walk.all_behave (map half_class (drop l.class-index l.classes))
