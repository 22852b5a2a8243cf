use Rattle.std.proofs.Common.{◌≡◌, ◌++◌, drop, map}
use Rattle.ulam_tree.specs.TypedViews.{typed_class}
use Rattle.element_set.specs.Names.{names_in}
use Rattle.element_set.proofs.names.element_names.Given as goal

abbrev pub invariant-loop-class : goal.invariant-loop-class
invariant-loop-class l = l.names.items ++ names_in (map typed_class (drop l.class-index l.classes)) ≡ names_in (map typed_class l.classes)
