use Rattle.std.proofs.Common.{◌≡◌, ◌++◌, map, drop}
use Rattle.std.specs.Prelude.{filter}
use Rattle.ulam_tree.specs.RawViews.{shared_member}
use Rattle.ulam_heirs.specs.Opened.{virtual_in}
use Rattle.ulam_heirs.specs.OpenedViews.{pointed_members, state_of}
use Rattle.ulam_heirs.specs.Views.{heir_of}
use Rattle.ulam_heirs.proofs.opened.virtual_members.Given as goal

abbrev pub invariant-loop-member : goal.invariant-loop-member
invariant-loop-member l =
    filter (virtual_in (state_of l.opened).table (heir_of l.heir)) (map shared_member l.heir.class.now.members.items)
    ≡ pointed_members l.found.items ++ filter (virtual_in (state_of l.opened).table (heir_of l.heir)) (map shared_member (drop l.member-index l.heir.class.now.members.items))
