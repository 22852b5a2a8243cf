use Rattle.std.proofs.Common.{◌≡◌, drop, map}
use Rattle.ulam_tree.specs.ResolvedViews.{resolved_param}
use Rattle.type_rules.specs.Programs as walk
use Rattle.ulam_types.specs.Shown.{here}
use Rattle.ulam_types.proofs.function.header.Given as goal

abbrev pub invariant-loop-param : goal.invariant-loop-param
invariant-loop-param l = walk.params (here l.scope) (map resolved_param (drop l.param-index l.params)) ≡ walk.params (here l.scope) (map resolved_param l.params)
