use Rattle.std.proofs.Common.{◌≡◌, ℕ, List, map, drop}
use Rattle.ulam_tree.specs.RawViews.{shared_member}
use Rattle.ulam_heirs.specs.Spans.{span_by, members_span}
use Rattle.ulam_heirs.specs.Views.{heir_of}
use Rattle.ulam_heirs.proofs.spans.add_class.Given as goal

abbrev pub invariant-loop-member : goal.invariant-loop-member
invariant-loop-member l =
    (name : List ℕ) →
    members_span (heir_of l.heir) l.index name (map shared_member l.heir.class.now.members.items) (span_by name l.initial.spans.entries)
    ≡ members_span (heir_of l.heir) l.index name (map shared_member (drop l.member-index l.heir.class.now.members.items)) (span_by name l.spans.entries)
