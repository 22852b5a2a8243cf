use Rattle.std.proofs.Common.{◌≡◌, ◌≤◌, ◌+◌, map, sum, drop}
use Rattle.ulam_tree.specs.ResolvedViews.{resolved_member}
use Rattle.atom_layout.specs.Layouts.{widths, capped_bits}
use Rattle.atom_layout.specs.Rows.{in_row}
use Rattle.atom_layout.proofs.rounds.class_bits.Given as goal

abbrev pub invariant-loop-member : goal.invariant-loop-member
invariant-loop-member l = record {
  sum : capped_bits (sum (widths (in_row l.row) (map resolved_member l.class.members.items))) ≡ capped_bits (l.sum + sum (widths (in_row l.row) (map resolved_member (drop l.member-index l.class.members.items))));
  few : l.sum ≤ 18446744073709551615;
}
