use Rattle.std.proofs.Common.{◌≡◌, ◌++◌, map, drop}
use Rattle.ulam_tree.specs.ResolvedViews.{resolved_member}
use Rattle.atom_layout.specs.Layouts.{widths}
use Rattle.atom_layout.specs.Rows.{in_row, narrow}
use Rattle.atom_layout.proofs.rounds.class_widths.Given as goal

abbrev pub invariant-loop-member : goal.invariant-loop-member
invariant-loop-member l = map narrow (widths (in_row l.row) (map resolved_member l.class.members.items)) ≡ l.bits.items ++ map narrow (widths (in_row l.row) (map resolved_member (drop l.member-index l.class.members.items)))
