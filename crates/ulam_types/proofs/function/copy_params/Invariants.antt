use Rattle.std.proofs.Common.{◌≡◌, ◌++◌, map, drop}
use Rattle.ulam_tree.specs.ResolvedViews.{resolved_param}
use Rattle.ulam_types.proofs.function.copy_params.Given as goal

abbrev pub invariant-loop-param : goal.invariant-loop-param
invariant-loop-param l = map resolved_param l.params ≡ map resolved_param l.copies.items ++ map resolved_param (drop l.param-index l.params)
