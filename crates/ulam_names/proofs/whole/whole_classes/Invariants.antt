use Rattle.std.proofs.Common.{◌≡◌, map, drop}
use Rattle.ulam_names.specs.Classes as walk
use Rattle.ulam_tree.specs.Found.{with_front}
use Rattle.ulam_names.specs.Shown.{head_of, half_class}
use Rattle.ulam_tree.specs.ResolvedViews.{resolved_class}
use Rattle.ulam_names.proofs.whole.whole_classes.Given as goal

abbrev pub invariant-loop-class : goal.invariant-loop-class
invariant-loop-class l = record {
  found :
      walk.whole_classes l.known (map head_of l.classes) 0 (map half_class l.classes)
      ≡ with_front (map resolved_class l.found.items) (walk.whole_classes l.known (map head_of l.classes) l.own (map half_class (drop l.class-index l.classes)));
  own : l.own ≡ l.class-index;
}
