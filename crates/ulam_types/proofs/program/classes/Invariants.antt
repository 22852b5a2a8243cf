use Rattle.std.proofs.Common.{◌≡◌, map, drop}
use Rattle.ulam_tree.specs.ResolvedViews.{resolved_class}
use Rattle.ulam_tree.specs.TypedViews.{typed_class}
use Rattle.type_rules.specs.Programs as walk
use Rattle.ulam_tree.specs.Found.{with_front}
use Rattle.ulam_types.specs.Shown.{class_view}
use Rattle.ulam_types.proofs.program.classes.Given as goal

abbrev pub invariant-loop-one : goal.invariant-loop-one
invariant-loop-one l = record {
  found : walk.classes (map class_view l.sigs) 0 (map resolved_class l.raw) ≡ with_front (map typed_class l.found.items) (walk.classes (map class_view l.sigs) l.own (map resolved_class (drop l.one-index l.raw)));
  own : l.own ≡ l.one-index;
}
