use Rattle.std.proofs.Common.{◌≡◌, ◌∙◌, sym, ap, List, ◌∷◌, ◌+◌, drop, map, arith, rules}
use Rattle.std.proofs.lemmas.List.{at_drop_more, map-append}
use Rattle.std.proofs.lemmas.Grind.{common_steps}
use Rattle.ulam_tree.specs.Resolved as r
use Rattle.ulam_tree.specs.Typed as t
use Rattle.ulam_tree.specs.ResolvedViews.{resolved_member}
use Rattle.ulam_tree.specs.TypedViews.{typed_member}
use Rattle.ulam_tree.specs.declared.resolved.Member.{Member}
use Rattle.type_rules.specs.Scopes.{ClassSig}
use Rattle.type_rules.specs.Programs as walk
use Rattle.ulam_tree.specs.Found.{with_front}
use Rattle.ulam_types.specs.Shown.{class_view}
use Rattle.ulam_types.proofs.Lists.{member_on}
use Rattle.ulam_types.proofs.Fails.{passed_on, no_room}
use Rattle.ulam_types.proofs.program.members.Goals as goal

pub returns-in_err-member : goal.returns-in_err-member
returns-in_err-member c =
    let xs : List Member = c.args.raw.now in
    let sigs : List ClassSig = map class_view c.args.sigs.now in
    let rest : List r.Member = map resolved_member (drop (c.loop-one.one-index + 1) xs) in
    let front : List t.Member = map typed_member c.loop-one.found.items in
    let e : walk.members sigs c.args.own (map resolved_member xs) ≡ with_front front (walk.members sigs c.args.own (resolved_member c.one-item.result ∷ rest)) =
    c.loop-one.invariant
    ∙ at_drop_more (λ (zs : List Member). with_front front (walk.members sigs c.args.own (map resolved_member zs))) xs c.loop-one.one-index c.one-item.result c.loop-one-test.true
    ∙ ap (λ (x : Member). with_front front (walk.members sigs c.args.own (resolved_member x ∷ rest))) (sym c.one-item.is) in
    rw e (passed_on _ _ _ _ _ c.from_residual.ensures c.in_err-member.ensures (λ f h. first_of (search rules, grind (arith, common_steps))))

pub loop-one-preserved : goal.loop-one-preserved
loop-one-preserved c =
    let xs : List Member = c.args.raw.now in
    let sigs : List ClassSig = map class_view c.args.sigs.now in
    let rest : List r.Member = map resolved_member (drop (c.loop-one.one-index + 1) xs) in
    let front : List t.Member = map typed_member c.loop-one.found.items in
    c.loop-one.invariant
    ∙ at_drop_more (λ (zs : List Member). with_front front (walk.members sigs c.args.own (map resolved_member zs))) xs c.loop-one.one-index c.one-item.result c.loop-one-test.true
    ∙ ap (λ (x : Member). with_front front (walk.members sigs c.args.own (resolved_member x ∷ rest))) (sym c.one-item.is)
    ∙ member_on sigs c.args.own front (resolved_member c.one-item.result) rest (typed_member c.in_ok-member.member) c.in_ok-member.ensures
    ∙ ap (λ (zs : List t.Member). with_front zs (walk.members sigs c.args.own rest)) (sym (ap (map typed_member) c.in_ok-push.ensures.items ∙ map-append typed_member c.loop-one.found.items _))

pub returns-in_err-push : goal.returns-in_err-push
returns-in_err-push c = no_room _ _ _ c.from_residual-in_err-push.ensures
