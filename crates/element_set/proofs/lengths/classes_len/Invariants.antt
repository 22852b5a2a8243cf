use Rattle.std.proofs.Common.{◌≡◌, ◌+◌, ◌-◌, ◌^◌, ◌<◌, drop, take, length, map, min}
use Rattle.ulam_tree.specs.TypedViews.{typed_class}
use Rattle.element_set.specs.CheckText.{check_text, classes_text}
use Rattle.element_set.specs.Kept.{set_of_lists}
use Rattle.element_set.specs.Names.{names_in}
use Rattle.element_set.proofs.lengths.classes_len.Given as goal

abbrev pub invariant-loop-class : goal.invariant-loop-class
invariant-loop-class l = record {
  left : min (l.len + length (classes_text (set_of_lists l.classes l.layout) l.own (map typed_class (drop l.class-index l.classes)))) (2 ^ 64 - 1) ≡ min (length (check_text (set_of_lists l.classes l.layout))) (2 ^ 64 - 1);
  fits : l.len < 2 ^ 64;
  own : l.own ≡ l.class-index;
  before : l.before ≡ length (names_in (take l.class-index (map typed_class l.classes)));
}
