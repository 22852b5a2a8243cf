use Rattle.std.proofs.Common.{List, ℕ, ◌≡◌, ◌++◌, drop, map}
use Rattle.world_text.specs.Printed.{atom_line, lines_text}
use Rattle.world_text.proofs.printed.push_atoms.Given as goal

abbrev pub invariant-loop-placed : goal.invariant-loop-placed
invariant-loop-placed l = record {
  done : l.out.items ++ lines_text (map (atom_line l.names) (drop l.placed-index l.atoms)) ≡ l.initial.out.items ++ lines_text (map (atom_line l.names) l.atoms);
  kept : (more : List ℕ) × (l.out.items ≡ l.initial.out.items ++ more);
}
