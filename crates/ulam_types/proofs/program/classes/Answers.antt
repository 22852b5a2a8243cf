use Rattle.std.proofs.Common.{◌≡◌, ◌∙◌, sym, ap, List, ◌∷◌, ◌+◌, drop, map, arith, rules}
use Rattle.std.proofs.lemmas.List.{at_drop_more, map-append}
use Rattle.std.proofs.lemmas.Grind.{common_steps}
use Rattle.ulam_tree.specs.Resolved as r
use Rattle.ulam_tree.specs.Typed as t
use Rattle.ulam_tree.specs.ResolvedViews.{resolved_class}
use Rattle.ulam_tree.specs.TypedViews.{typed_class}
use Rattle.ulam_tree.specs.declared.resolved.Class.{Class}
use Rattle.type_rules.specs.Scopes.{ClassSig}
use Rattle.type_rules.specs.Programs as walk
use Rattle.ulam_tree.specs.Found.{with_front}
use Rattle.ulam_types.specs.Shown.{class_view}
use Rattle.ulam_types.proofs.Lists.{class_on}
use Rattle.ulam_types.proofs.Fails.{passed_on, no_room}
use Rattle.ulam_types.proofs.program.classes.Goals as goal

pub returns-in_err-class : goal.returns-in_err-class
returns-in_err-class c =
    let xs : List Class = c.args.raw.now in
    let sigs : List ClassSig = map class_view c.args.sigs.now in
    let rest : List r.Class = map resolved_class (drop (c.loop-one.one-index + 1) xs) in
    let front : List t.Class = map typed_class c.loop-one.found.items in
    let e : walk.classes sigs 0 (map resolved_class xs) ≡ with_front front (walk.classes sigs c.loop-one.own (resolved_class c.one-item.result ∷ rest)) =
    c.loop-one.invariant.found
    ∙ at_drop_more (λ (zs : List Class). with_front front (walk.classes sigs c.loop-one.own (map resolved_class zs))) xs c.loop-one.one-index c.one-item.result c.loop-one-test.true
    ∙ ap (λ (x : Class). with_front front (walk.classes sigs c.loop-one.own (resolved_class x ∷ rest))) (sym c.one-item.is) in
    rw e (passed_on _ _ _ _ _ c.from_residual.ensures c.in_err-class.ensures (λ f h. first_of (search rules, grind (arith, common_steps))))

pub loop-one-preserved : goal.loop-one-preserved
loop-one-preserved c =
    let xs : List Class = c.args.raw.now in
    let sigs : List ClassSig = map class_view c.args.sigs.now in
    let rest : List r.Class = map resolved_class (drop (c.loop-one.one-index + 1) xs) in
    let front : List t.Class = map typed_class c.loop-one.found.items in
    record {
      found =
          c.loop-one.invariant.found
          ∙ at_drop_more (λ (zs : List Class). with_front front (walk.classes sigs c.loop-one.own (map resolved_class zs))) xs c.loop-one.one-index c.one-item.result c.loop-one-test.true
          ∙ ap (λ (x : Class). with_front front (walk.classes sigs c.loop-one.own (resolved_class x ∷ rest))) (sym c.one-item.is)
          ∙ class_on sigs c.loop-one.own (c.loop-one.own + 1) front (resolved_class c.one-item.result) rest (typed_class c.in_ok-class.class) c.in_ok-class.ensures (omega arith)
          ∙ ap (λ (zs : List t.Class). with_front zs (walk.classes sigs (c.loop-one.own + 1) rest)) (sym (ap (map typed_class) c.in_ok-push.ensures.items ∙ map-append typed_class c.loop-one.found.items _));
      own = omega (arith, c.loop-one.invariant.own);
    }

pub returns-in_err-push : goal.returns-in_err-push
returns-in_err-push c = no_room _ _ _ c.from_residual-in_err-push.ensures
