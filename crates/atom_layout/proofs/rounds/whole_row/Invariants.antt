use Rattle.std.proofs.Common.{◌≡◌, map}
use Rattle.ulam_tree.specs.ResolvedViews.{resolved_class}
use Rattle.atom_layout.specs.Rows.{row_after}
use Rattle.atom_layout.proofs.rounds.whole_row.Given as goal

abbrev pub invariant-loop : goal.invariant-loop
invariant-loop l = l.row.items ≡ row_after l.counter (map resolved_class l.classes)
