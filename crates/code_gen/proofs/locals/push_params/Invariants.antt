use Rattle.std.proofs.Common.{◌≡◌, ◌++◌, map, drop}
use Rattle.ulam_tree.specs.ResolvedViews.{resolved_param}
use Rattle.ulam_meaning.specs.Programs.{param_types}
use Rattle.code_gen.proofs.locals.push_params.Given as goal

abbrev pub invariant-loop-param : goal.invariant-loop-param
invariant-loop-param l = l.types.items ++ param_types (map resolved_param (drop l.param-index l.params)) ≡ l.initial.types.items ++ param_types (map resolved_param l.params)
