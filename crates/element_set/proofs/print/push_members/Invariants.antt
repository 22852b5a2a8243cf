use Rattle.std.proofs.Common.{ℕ, List, ◌≡◌, ◌+◌, ◌++◌, drop, map}
use Rattle.ulam_tree.specs.TypedViews.{typed_member}
use Rattle.element_set.specs.CheckText.{members_text}
use Rattle.element_set.specs.Kept.{set_of_lists}
use Rattle.element_set.specs.Names.{field_count}
use Rattle.element_set.proofs.print.push_members.Given as goal

abbrev pub invariant-loop-member : goal.invariant-loop-member
invariant-loop-member l = record {
  done : l.out.items ++ members_text (set_of_lists l.classes l.layout) l.own l.at (map typed_member (drop l.member-index l.members)) ≡ l.initial.out.items ++ members_text (set_of_lists l.classes l.layout) l.own 0 (map typed_member l.members);
  kept : (more : List ℕ) × (l.out.items ≡ l.initial.out.items ++ more);
  count : l.at + field_count (map typed_member (drop l.member-index l.members)) ≡ field_count (map typed_member l.members);
}
