use Rattle.std.proofs.Common.{◌≡◌, ◌∙◌, sym, ap, List, ◌∷◌, ◌+◌, drop, map, arith, refl}
use Rattle.std.proofs.lemmas.List.{at_drop_more, map-append}
use Rattle.ulam_names.proofs.Faults.{passed_on}
use Rattle.ulam_tree.specs.Resolved as r
use Rattle.ulam_tree.specs.ResolvedViews.{resolved_class}
use Rattle.ulam_names.specs.declared.half.HalfClass.{HalfClass}
use Rattle.ulam_tree.specs.Found.{with_front}
use Rattle.ulam_names.specs.Classes as walk
use Rattle.ulam_names.specs.Scopes.{Head}
use Rattle.ulam_names.specs.Shown.{head_of, half_class}
use Rattle.ulam_names.proofs.WholeClasses.{class_on}
use Rattle.ulam_names.proofs.whole.whole_classes.Goals as goal

pub returns-in_err-whole_class : goal.returns-in_err-whole_class
returns-in_err-whole_class c =
    let xs : List HalfClass = c.args.classes.now in
    let heads : List Head = map head_of xs in
    let rest : List walk.HalfClass = map half_class (drop (c.loop-class.class-index + 1) xs) in
    let front : List r.Class = map resolved_class c.loop-class.found.items in
    let e : walk.whole_classes c.args.known.now heads 0 (map half_class xs) ≡ with_front front (walk.whole_classes c.args.known.now heads c.loop-class.own (half_class c.class-item.result ∷ rest)) =
    c.loop-class.invariant.found
    ∙ at_drop_more (λ (zs : List HalfClass). with_front front (walk.whole_classes c.args.known.now heads c.loop-class.own (map half_class zs))) xs c.loop-class.class-index c.class-item.result c.loop-class-test.true
    ∙ ap (λ (x : HalfClass). with_front front (walk.whole_classes c.args.known.now heads c.loop-class.own (half_class x ∷ rest))) (sym c.class-item.is) in
    passed_on _ _ _ _ _ c.from_residual.ensures c.in_err-whole_class.ensures (λ f h. e ∙ rw h refl)

pub loop-class-preserved : goal.loop-class-preserved
loop-class-preserved c =
    let xs : List HalfClass = c.args.classes.now in
    let heads : List Head = map head_of xs in
    let rest : List walk.HalfClass = map half_class (drop (c.loop-class.class-index + 1) xs) in
    let front : List r.Class = map resolved_class c.loop-class.found.items in
    record {
      found =
          c.loop-class.invariant.found
          ∙ at_drop_more (λ (zs : List HalfClass). with_front front (walk.whole_classes c.args.known.now heads c.loop-class.own (map half_class zs))) xs c.loop-class.class-index c.class-item.result c.loop-class-test.true
          ∙ ap (λ (x : HalfClass). with_front front (walk.whole_classes c.args.known.now heads c.loop-class.own (half_class x ∷ rest))) (sym c.class-item.is)
          ∙ class_on c.args.known.now heads c.loop-class.own (c.loop-class.own + 1) front (half_class c.class-item.result) rest (resolved_class c.in_ok-whole_class.field-0) c.in_ok-whole_class.ensures (omega arith)
          ∙ ap (λ (zs : List r.Class). with_front zs (walk.whole_classes c.args.known.now heads (c.loop-class.own + 1) rest)) (sym (ap (map resolved_class) c.in_ok-push.ensures.items ∙ map-append resolved_class c.loop-class.found.items _));
      own = omega (arith, c.loop-class.invariant.own);
    }
