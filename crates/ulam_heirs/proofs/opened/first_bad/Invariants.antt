use Rattle.std.proofs.Common.{◌≡◌, map, drop}
use Rattle.ulam_tree.specs.RawViews.{shared_member}
use Rattle.ulam_heirs.specs.Opened.{first_bad_in}
use Rattle.ulam_heirs.specs.OpenedViews.{state_of}
use Rattle.ulam_heirs.specs.Views.{heir_of}
use Rattle.ulam_heirs.proofs.opened.first_bad.Given as goal

abbrev pub invariant-loop-member : goal.invariant-loop-member
invariant-loop-member l =
    first_bad_in (state_of l.opened).table (heir_of l.heir) (map shared_member l.heir.class.now.members.items)
    ≡ first_bad_in (state_of l.opened).table (heir_of l.heir) (map shared_member (drop l.member-index l.heir.class.now.members.items))
