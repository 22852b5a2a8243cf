use Rattle.std.proofs.Common.{◌≡◌, ◌++◌, map, drop}
use Rattle.ulam_tree.specs.ResolvedViews.{resolved_param}
use Rattle.type_rules.specs.Programs.{want_of}
use Rattle.ulam_types.proofs.sigs.wants.Given as goal

abbrev pub invariant-loop-param : goal.invariant-loop-param
invariant-loop-param l = map want_of (map resolved_param l.params) ≡ l.found.items ++ map want_of (map resolved_param (drop l.param-index l.params))
