use Rattle.std.proofs.Common.{◌≡◌, map, drop}
use Rattle.ulam_names.specs.Classes as walk
use Rattle.ulam_names.specs.NamesView.{names_view}
use Rattle.ulam_names.specs.Scopes.{no_names}
use Rattle.ulam_names.specs.Shown.{half_of, with_halves}
use Rattle.ulam_tree.specs.RawViews as raw_view
use Rattle.ulam_names.proofs.member.members.Given as goal

abbrev pub invariant-loop-one : goal.invariant-loop-one
invariant-loop-one l =
    walk.members l.known no_names (map raw_view.shared_member l.raw)
    ≡ with_halves (map half_of l.found.items) (walk.members l.known (names_view l.names) (map raw_view.shared_member (drop l.one-index l.raw)))
