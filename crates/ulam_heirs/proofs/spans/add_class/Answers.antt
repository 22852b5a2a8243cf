use Rattle.std.proofs.Common.{◌≡◌, ◌<◌, ◌∙◌, sym, ap, subst, ◌+◌, List, ◌∷◌, length, map, drop, get_or}
use Rattle.std.proofs.lemmas.List.{at_drop_more}
use Rattle.ulam_tree.specs.Raw as t
use Rattle.ulam_tree.specs.RawViews.{member_of, Shared, shared_member}
use Rattle.ulam_tree.specs.declared.raw.Member.{Member}
use Rattle.ulam_heirs.specs.Lines.{Heir}
use Rattle.ulam_heirs.specs.Spans.{span_by, members_span}
use Rattle.ulam_heirs.specs.Views.{heir_of}
use Rattle.ulam_heirs.proofs.spans.add_class.Goals as goal

pub loop-member-preserved : goal.loop-member-preserved
loop-member-preserved c = λ name.
    let h : Heir = heir_of c.args.heir.now in
    let ms : List Shared = c.args.heir.now.class.now.members.items in
    let rest : List t.Member = map shared_member (drop (c.loop-member.member-index + 1) ms) in
    let same : c.deref-member-items.result.now ≡ ms = c.deref-member-items.ensures.value in
    c.loop-member.invariant name
    ∙ at_drop_more (λ (zs : List Shared). members_span h c.args.index name (map shared_member zs) (span_by name c.loop-member.spans.entries)) ms c.loop-member.member-index c.member-item.result (subst (λ (zs : List Shared). c.loop-member.member-index < length zs) same c.loop-member-test.true)
    ∙ ap (λ (x : Shared). members_span h c.args.index name (shared_member x ∷ rest) (span_by name c.loop-member.spans.entries)) (sym (c.member-item.is ∙ ap (λ (zs : List Shared). get_or zs c.loop-member.member-index c.member-item.result) same))
    ∙ ap (λ (x : Member). members_span h c.args.index name (member_of x ∷ rest) (span_by name c.loop-member.spans.entries)) (sym c.deref.ensures)
    ∙ ap (members_span h c.args.index name rest) (sym (c.in_ok-add_member.ensures name))
