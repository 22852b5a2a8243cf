use Rattle.std.proofs.Common.{◌≡◌, ◌++◌, map, drop}
use Rattle.ulam_tree.specs.ResolvedViews.{resolved_class}
use Rattle.atom_layout.proofs.rounds.first_row.Given as goal

abbrev pub invariant-loop : goal.invariant-loop
invariant-loop l = map (λ c. 0) (map resolved_class l.classes) ≡ l.row.items ++ map (λ c. 0) (map resolved_class (drop l.index l.classes))
