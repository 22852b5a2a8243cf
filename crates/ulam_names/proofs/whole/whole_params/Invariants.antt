use Rattle.std.proofs.Common.{◌≡◌, ◌++◌, map, drop}
use Rattle.ulam_names.specs.Shown.{param_of}
use Rattle.ulam_tree.specs.ResolvedViews.{resolved_param}
use Rattle.ulam_names.proofs.whole.whole_params.Given as goal

abbrev pub invariant-loop-param : goal.invariant-loop-param
invariant-loop-param l = map param_of l.params ≡ map resolved_param l.whole.items ++ map param_of (drop l.param-index l.params)
