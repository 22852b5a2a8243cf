use Rattle.std.proofs.Common.{◌≡◌, ◌++◌, map, drop}
use Rattle.ulam_tree.specs.ResolvedViews.{resolved_class, resolved_program}
use Rattle.ulam_tree.specs.Resolved.{Class}
use Rattle.atom_layout.specs.Layouts.{widths, class_bits, layout_of, first_wide, first_of, fault_in}
use Rattle.atom_layout.specs.Rows.{rows_of, AllNarrow}
use Rattle.atom_layout.proofs.rounds.layout.Given as goal

abbrev pub invariant-loop-class : goal.invariant-loop-class
invariant-loop-class l = record {
  rows : layout_of (resolved_program l.program) ≡ rows_of l.classes.items ++ map (λ (c : Class). widths (class_bits (resolved_program l.program)) c.members) (map resolved_class (drop l.class-index l.program.classes.items));
  wide : first_wide (resolved_program l.program) ≡ first_of (fault_in (resolved_program l.program)) (map resolved_class (drop l.class-index l.program.classes.items));
  narrow : AllNarrow (rows_of l.classes.items);
}
