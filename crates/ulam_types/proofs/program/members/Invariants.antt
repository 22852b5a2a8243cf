use Rattle.std.proofs.Common.{◌≡◌, map, drop}
use Rattle.ulam_tree.specs.ResolvedViews.{resolved_member}
use Rattle.ulam_tree.specs.TypedViews.{typed_member}
use Rattle.type_rules.specs.Programs as walk
use Rattle.ulam_tree.specs.Found.{with_front}
use Rattle.ulam_types.specs.Shown.{class_view}
use Rattle.ulam_types.proofs.program.members.Given as goal

abbrev pub invariant-loop-one : goal.invariant-loop-one
invariant-loop-one l =
    walk.members (map class_view l.sigs) l.own (map resolved_member l.raw) ≡ with_front (map typed_member l.found.items) (walk.members (map class_view l.sigs) l.own (map resolved_member (drop l.one-index l.raw)))
