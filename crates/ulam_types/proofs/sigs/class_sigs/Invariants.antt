use Rattle.std.proofs.Common.{◌≡◌, ◌++◌, map, drop}
use Rattle.ulam_tree.specs.ResolvedViews.{resolved_class}
use Rattle.type_rules.specs.Programs.{class_sig}
use Rattle.ulam_types.specs.Shown.{class_view}
use Rattle.ulam_types.proofs.sigs.class_sigs.Given as goal

abbrev pub invariant-loop-class : goal.invariant-loop-class
invariant-loop-class l = map class_sig (map resolved_class l.classes) ≡ map class_view l.found.items ++ map class_sig (map resolved_class (drop l.class-index l.classes))
