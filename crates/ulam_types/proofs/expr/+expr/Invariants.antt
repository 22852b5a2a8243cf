use Rattle.std.proofs.Common.{◌≡◌, length, drop}
use Rattle.ulam_tree.specs.ResolvedViews.{resolved_args}
use Rattle.type_rules.specs.Walk as walk
use Rattle.ulam_types.specs.Shown.{here, with_args}
use Rattle.ulam_types.proofs.expr.+expr.Given as goal

abbrev pub invariant-args-loop-i : goal.invariant-args-loop-i
invariant-args-loop-i l = record {
  rest : with_args l.found.items (walk.args (here l.scope) (drop l.i l.wants) (resolved_args (drop l.i l.raw))) ≡ walk.args (here l.scope) l.wants (resolved_args l.raw);
  many : length l.found.items ≡ l.i;
}
