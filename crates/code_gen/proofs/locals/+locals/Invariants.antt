use Rattle.std.proofs.Common.{◌≡◌, ◌++◌, drop}
use Rattle.ulam_tree.specs.Locals.{all_locals}
use Rattle.ulam_tree.specs.TypedViews.{typed_body}
use Rattle.code_gen.proofs.locals.+locals.Given as goal

abbrev pub invariant-push_body-loop-one : goal.invariant-push_body-loop-one
invariant-push_body-loop-one l = l.types.items ++ all_locals (typed_body (drop l.one-index l.list)) ≡ l.initial.types.items ++ all_locals (typed_body l.list)
