use Rattle.std.proofs.Common.{◌≡◌, drop}
use Rattle.ulam_tree.specs.TypedViews.{typed_args}
use Rattle.type_rules.specs.Rows as row
use Rattle.ulam_types.specs.Shown.{here}
use Rattle.ulam_types.proofs.suits.all_suit.Given as goal

abbrev pub invariant-loop-i : goal.invariant-loop-i
invariant-loop-i l = row.all_suit (here l.scope) (drop l.i l.wants) (typed_args (drop l.i l.args)) ≡ row.all_suit (here l.scope) l.wants (typed_args l.args)
