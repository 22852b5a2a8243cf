use Rattle.std.proofs.Common.{◌≡◌, map, drop}
use Rattle.ulam_names.specs.Classes as walk
use Rattle.ulam_names.specs.NamesView.{names_view}
use Rattle.ulam_tree.specs.Found.{with_front}
use Rattle.ulam_names.specs.Shown.{head_of, half_of}
use Rattle.ulam_tree.specs.ResolvedViews.{resolved_member}
use Rattle.ulam_names.proofs.whole.whole_members.Given as goal

abbrev pub invariant-loop-half : goal.invariant-loop-half
invariant-loop-half l =
    walk.whole_members l.known (map head_of l.heads) l.own (names_view l.class.names) (map half_of l.class.members.items)
    ≡ with_front (map resolved_member l.found.items) (walk.whole_members l.known (map head_of l.heads) l.own (names_view l.class.names) (map half_of (drop l.half-index l.class.members.items)))
