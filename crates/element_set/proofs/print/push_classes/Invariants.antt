use Rattle.std.proofs.Common.{ℕ, List, ◌≡◌, ◌++◌, drop, take, length, map}
use Rattle.ulam_tree.specs.TypedViews.{typed_class}
use Rattle.element_set.specs.CheckText.{classes_text}
use Rattle.element_set.specs.Kept.{set_of_lists}
use Rattle.element_set.specs.Names.{names_in}
use Rattle.element_set.proofs.print.push_classes.Given as goal

abbrev pub invariant-loop-class : goal.invariant-loop-class
invariant-loop-class l = record {
  done : l.out.items ++ classes_text (set_of_lists l.classes l.layout) l.own (map typed_class (drop l.class-index l.classes)) ≡ l.initial.out.items ++ classes_text (set_of_lists l.classes l.layout) 0 (map typed_class l.classes);
  kept : (more : List ℕ) × (l.out.items ≡ l.initial.out.items ++ more);
  own : l.own ≡ l.class-index;
  before : l.before ≡ length (names_in (take l.class-index (map typed_class l.classes)));
}
