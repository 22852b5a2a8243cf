use Rattle.std.proofs.Common.{◌≡◌, map, drop}
use Rattle.std.specs.Prelude.{◌&&◌}
use Rattle.std.specs.List.{list_any}
use Rattle.ulam_tree.specs.Raw.{Member}
use Rattle.ulam_tree.specs.RawViews.{shared_member}
use Rattle.ulam_heirs.specs.Flat.{is_function, is_named, has_word}
use Rattle.ulam_heirs.specs.Views.{heir_of}
use Rattle.ulam_heirs.proofs.member.says_virtual.Given as goal

abbrev pub invariant-loop-member : goal.invariant-loop-member
invariant-loop-member l =
    list_any (λ (m : Member). is_function m && is_named l.name m && has_word (heir_of l.heir) m) (map shared_member l.heir.class.now.members.items)
    ≡ list_any (λ (m : Member). is_function m && is_named l.name m && has_word (heir_of l.heir) m) (map shared_member (drop l.member-index l.heir.class.now.members.items))
