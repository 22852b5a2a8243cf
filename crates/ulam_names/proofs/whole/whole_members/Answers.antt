use Rattle.std.proofs.Common.{◌≡◌, ◌∙◌, sym, ap, List, ◌∷◌, ◌+◌, drop, map, Ok, refl}
use Rattle.std.proofs.lemmas.List.{at_drop_more, at_drop_all, append-nil, map-append}
use Rattle.ulam_names.proofs.Faults.{passed_on}
use Rattle.ulam_tree.specs.Resolved as r
use Rattle.ulam_tree.specs.ResolvedViews.{resolved_member}
use Rattle.ulam_names.specs.declared.half.Half.{Half}
use Rattle.ulam_tree.specs.Found.{with_front}
use Rattle.ulam_names.specs.Classes as walk
use Rattle.ulam_names.specs.NamesView.{names_view}
use Rattle.ulam_names.specs.Scopes.{Head, Names}
use Rattle.ulam_names.specs.Shown.{head_of, half_of}
use Rattle.ulam_names.proofs.WholeClasses.{member_on}
use Rattle.ulam_names.proofs.whole.whole_members.Goals as goal

pub returns-in_err-member : goal.returns-in_err-member
returns-in_err-member c =
    let xs : List Half = c.args.class.now.members.items in
    let heads : List Head = map head_of c.args.heads.now in
    let d : Names = names_view c.args.class.now.names in
    let rest : List walk.Half = map half_of (drop (c.loop-half.half-index + 1) xs) in
    let front : List r.Member = map resolved_member c.loop-half.found.items in
    let seen : c.deref-half-items.result.now ≡ xs = c.deref-half-items.ensures.value in
    let e : walk.whole_members c.args.known.now heads c.args.own d (map half_of xs) ≡ with_front front (walk.whole_members c.args.known.now heads c.args.own d (half_of c.half-item.result ∷ rest)) =
    c.loop-half.invariant
    ∙ ap (λ (zs : List Half). with_front front (walk.whole_members c.args.known.now heads c.args.own d (map half_of (drop c.loop-half.half-index zs)))) (sym seen)
    ∙ at_drop_more (λ (zs : List Half). with_front front (walk.whole_members c.args.known.now heads c.args.own d (map half_of zs))) c.deref-half-items.result.now c.loop-half.half-index c.half-item.result c.loop-half-test.true
    ∙ ap (λ (x : Half). with_front front (walk.whole_members c.args.known.now heads c.args.own d (half_of x ∷ map half_of (drop (c.loop-half.half-index + 1) c.deref-half-items.result.now)))) (sym c.half-item.is)
    ∙ ap (λ (zs : List Half). with_front front (walk.whole_members c.args.known.now heads c.args.own d (half_of c.half-item.result ∷ map half_of (drop (c.loop-half.half-index + 1) zs)))) seen in
    passed_on _ _ _ _ _ c.from_residual.ensures c.in_err-member.ensures (λ f h. e ∙ rw h refl)

pub loop-half-preserved : goal.loop-half-preserved
loop-half-preserved c =
    let xs : List Half = c.args.class.now.members.items in
    let heads : List Head = map head_of c.args.heads.now in
    let d : Names = names_view c.args.class.now.names in
    let rest : List walk.Half = map half_of (drop (c.loop-half.half-index + 1) xs) in
    let front : List r.Member = map resolved_member c.loop-half.found.items in
    let seen : c.deref-half-items.result.now ≡ xs = c.deref-half-items.ensures.value in
    c.loop-half.invariant
    ∙ ap (λ (zs : List Half). with_front front (walk.whole_members c.args.known.now heads c.args.own d (map half_of (drop c.loop-half.half-index zs)))) (sym seen)
    ∙ at_drop_more (λ (zs : List Half). with_front front (walk.whole_members c.args.known.now heads c.args.own d (map half_of zs))) c.deref-half-items.result.now c.loop-half.half-index c.half-item.result c.loop-half-test.true
    ∙ ap (λ (x : Half). with_front front (walk.whole_members c.args.known.now heads c.args.own d (half_of x ∷ map half_of (drop (c.loop-half.half-index + 1) c.deref-half-items.result.now)))) (sym c.half-item.is)
    ∙ ap (λ (zs : List Half). with_front front (walk.whole_members c.args.known.now heads c.args.own d (half_of c.half-item.result ∷ map half_of (drop (c.loop-half.half-index + 1) zs)))) seen
    ∙ member_on c.args.known.now heads c.args.own d front (half_of c.half-item.result) rest (resolved_member c.in_ok-member.member) c.in_ok-member.ensures
    ∙ ap (λ (zs : List r.Member). with_front zs (walk.whole_members c.args.known.now heads c.args.own d rest)) (sym (ap (map resolved_member) c.in_ok-push.ensures.items ∙ map-append resolved_member c.loop-half.found.items _))

pub returns : goal.returns
returns c =
    let heads : List Head = map head_of c.args.heads.now in
    let d : Names = names_view c.args.class.now.names in
    let front : List r.Member = map resolved_member c.loop-half.found.items in
    c.loop-half.invariant
    ∙ ap (λ (zs : List Half). with_front front (walk.whole_members c.args.known.now heads c.args.own d (map half_of (drop c.loop-half.half-index zs)))) (sym c.deref-half-items.ensures.value)
    ∙ at_drop_all (λ (zs : List Half). with_front front (walk.whole_members c.args.known.now heads c.args.own d (map half_of zs))) c.deref-half-items.result.now c.loop-half.half-index c.loop-half-test.false
    ∙ ap Ok (append-nil front)
