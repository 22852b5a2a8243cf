use Rattle.std.proofs.Common.{◌≡◌, drop}
use Rattle.ulam_tree.specs.ResolvedViews.{resolved_body}
use Rattle.type_rules.specs.Bodies as walk
use Rattle.ulam_types.specs.Shown.{here, with_body}
use Rattle.ulam_types.proofs.statement.+statement.Given as goal

abbrev pub invariant-body-loop-one : goal.invariant-body-loop-one
invariant-body-loop-one l = with_body l.found.items (walk.body (here l.scope) (resolved_body (drop l.one-index l.raw))) ≡ walk.body (here l.scope) (resolved_body l.raw)
