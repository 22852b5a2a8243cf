use Rattle.std.proofs.Common.{◌≡◌, map, drop, []}
use Rattle.ulam_names.specs.Classes as walk
use Rattle.ulam_names.specs.NamesView.{names_view}
use Rattle.ulam_tree.specs.Found.{with_front}
use Rattle.ulam_names.specs.Shown.{param_of, param_names}
use Rattle.ulam_tree.specs.RawViews as raw_view
use Rattle.ulam_names.proofs.member.params.Given as goal

abbrev pub invariant-loop-param : goal.invariant-loop-param
invariant-loop-param l =
    walk.params_of l.known (names_view l.names) [] (map raw_view.param_of l.raw)
    ≡ with_front (map param_of l.found) (walk.params_of l.known (names_view l.names) (param_names l.found) (map raw_view.param_of (drop l.param-index l.raw)))
