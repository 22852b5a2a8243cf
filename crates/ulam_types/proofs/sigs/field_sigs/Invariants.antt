use Rattle.std.proofs.Common.{◌≡◌, ◌++◌, map, drop}
use Rattle.ulam_tree.specs.ResolvedViews.{resolved_member}
use Rattle.type_rules.specs.Programs.{fields_of}
use Rattle.ulam_types.proofs.sigs.field_sigs.Given as goal

abbrev pub invariant-loop-member : goal.invariant-loop-member
invariant-loop-member l = fields_of (map resolved_member l.members) ≡ l.found.items ++ fields_of (map resolved_member (drop l.member-index l.members))
