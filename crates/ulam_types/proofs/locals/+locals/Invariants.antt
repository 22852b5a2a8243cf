use Rattle.std.proofs.Common.{◌≡◌, ◌++◌, drop}
use Rattle.ulam_tree.specs.Locals.{all_locals}
use Rattle.ulam_tree.specs.ResolvedViews.{resolved_body}
use Rattle.ulam_types.proofs.locals.+locals.Given as goal

abbrev pub invariant-push_body-loop-one : goal.invariant-push_body-loop-one
invariant-push_body-loop-one l = l.out.items ++ all_locals (resolved_body (drop l.one-index l.raw)) ≡ l.initial.out.items ++ all_locals (resolved_body l.raw)
