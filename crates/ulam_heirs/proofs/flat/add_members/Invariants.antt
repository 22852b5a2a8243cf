use Rattle.std.proofs.Common.{◌≡◌, ◌+◌, ◌++◌, length, map, take, drop}
use Rattle.std.specs.Prelude.{filter, not}
use Rattle.ulam_tree.specs.Raw.{Member}
use Rattle.ulam_tree.specs.RawViews.{shared_member}
use Rattle.ulam_heirs.specs.Flat.{is_left_out}
use Rattle.ulam_heirs.specs.Within.{IsWithin}
use Rattle.ulam_heirs.specs.Views.{heir_of, heirs_of}
use Rattle.ulam_heirs.proofs.flat.add_members.Given as goal

abbrev pub invariant-loop-member : goal.invariant-loop-member
invariant-loop-member l = record {
  flat :
      map shared_member l.initial.found.items ++ filter (λ (m : Member). not (is_left_out (heirs_of (take l.index l.line.heirs.now)) (heir_of l.heir) (heirs_of (drop (l.index + 1) l.line.heirs.now)) m)) (map shared_member l.heir.class.now.members.items)
      ≡ map shared_member l.found.items ++ filter (λ (m : Member). not (is_left_out (heirs_of (take l.index l.line.heirs.now)) (heir_of l.heir) (heirs_of (drop (l.index + 1) l.line.heirs.now)) m)) (map shared_member (drop l.member-index l.heir.class.now.members.items));
  few : IsWithin l.most (length l.found.items);
}
