use Rattle.std.proofs.Common.{◌≡◌, map, drop}
use Rattle.ulam_names.specs.Classes as walk
use Rattle.ulam_names.specs.Shown.{head_of, half_class}
use Rattle.ulam_names.proofs.cycle.each_apart.Given as goal

abbrev pub invariant-loop-class : goal.invariant-loop-class
invariant-loop-class l = record {
  apart : walk.none_cyclic (map head_of l.classes) 0 (map half_class l.classes) ≡ walk.none_cyclic (map head_of l.classes) l.number (map half_class (drop l.class-index l.classes));
  number : l.number ≡ l.class-index;
}
