use Rattle.std.proofs.Common.{◌≡◌, ◌++◌, map, drop}
use Rattle.ulam_tree.specs.ResolvedViews.{resolved_param}
use Rattle.type_rules.specs.Programs.{param_type}
use Rattle.ulam_types.proofs.locals.param_types.Given as goal

abbrev pub invariant-loop-param : goal.invariant-loop-param
invariant-loop-param l = map param_type (map resolved_param l.params) ≡ l.types.items ++ map param_type (map resolved_param (drop l.param-index l.params))
