use Rattle.std.proofs.Common.{◌≡◌, ◌++◌, map, drop}
use Rattle.ulam_tree.specs.ResolvedViews.{resolved_class}
use Rattle.atom_layout.specs.Rows.{class_row}
use Rattle.atom_layout.proofs.rounds.next_row.Given as goal

abbrev pub invariant-loop-class : goal.invariant-loop-class
invariant-loop-class l = map (class_row l.row) (map resolved_class l.classes) ≡ l.next.items ++ map (class_row l.row) (map resolved_class (drop l.class-index l.classes))
