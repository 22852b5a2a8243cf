use Rattle.std.proofs.Common.{◌≡◌, ◌++◌, map, drop}
use Rattle.ulam_tree.specs.ResolvedViews.{resolved_member}
use Rattle.type_rules.specs.Programs.{functions_of}
use Rattle.ulam_types.specs.Shown.{function_view}
use Rattle.ulam_types.proofs.sigs.function_sigs.Given as goal

abbrev pub invariant-loop-member : goal.invariant-loop-member
invariant-loop-member l = functions_of (map resolved_member l.members) ≡ map function_view l.found.items ++ functions_of (map resolved_member (drop l.member-index l.members))
