use Rattle.std.proofs.Common.{◌≡◌, ◌+◌, ◌++◌, [], length, drop, map, get_or, ap, ◌∙◌, arith, length-append}
use Rattle.ulam_tree.specs.TypedViews.{typed_class}
use Rattle.element_set.specs.CheckText.{class_after, classes_text}
use Rattle.element_set.specs.Kept.{set_of_lists}
use Rattle.element_set.proofs.ClassWalk.{row_fits, elements_fit, elements_then, text_left}
use Rattle.element_set.proofs.lengths.classes_len.Goals as goal

pub push_class-requires-clause-class : goal.push_class-requires-clause-class
push_class-requires-clause-class c =
    let l = c.loop-class in
    let fit = row_fits c.args.classes.now c.args.layout.now l.class-index c.class-item.result c.requires.fits
    c.loop-class-test.true c.class-item.is in
    omega (arith, fit.0, l.invariant.own)

pub overflow_add-own : goal.overflow_add-own
overflow_add-own c = omega (arith, c.loop-class.invariant.own, c.requires.few, c.loop-class-test.true)

pub push_class-requires-clause-fits : goal.push_class-requires-clause-fits
push_class-requires-clause-fits c =
    let l = c.loop-class in
    let fit = row_fits c.args.classes.now c.args.layout.now l.class-index c.class-item.result c.requires.fits c.loop-class-test.true c.class-item.is in
    omega (arith, fit.1, ap (λ n. length (get_or c.args.layout.now n [])) l.invariant.own)

pub push_class-requires-clause-few : goal.push_class-requires-clause-few
push_class-requires-clause-few c =
    let fit = row_fits c.args.classes.now c.args.layout.now c.loop-class.class-index c.class-item.result c.requires.fits c.loop-class-test.true c.class-item.is in
    omega (arith, fit.1, fit.2)

pub push_class-requires-clause-before : goal.push_class-requires-clause-before
push_class-requires-clause-before c =
    omega (arith, c.loop-class.invariant.before, elements_fit c.args.classes.now c.loop-class.class-index c.requires.few)

pub with_class-before-requires : goal.with_class-before-requires
with_class-before-requires c =
    omega (arith, c.loop-class.invariant.before, elements_fit c.args.classes.now c.loop-class.class-index c.requires.few)

pub loop-class-preserved : goal.loop-class-preserved
loop-class-preserved c =
    let classes = c.args.classes.now in
    let s = set_of_lists classes c.args.layout.now in
    let l = c.loop-class in
    let item = c.class-item.result in
    let piece = class_after s l.own l.before (typed_class item) in
    let rest = classes_text s (l.own + 1) (map typed_class (drop (l.class-index + 1) classes)) in
    let left = text_left classes c.args.layout.now l.class-index l.own l.before item c.loop-class-test.true c.class-item.is l.invariant.own l.invariant.before in
    let whole : length (classes_text s l.own (map typed_class (drop l.class-index classes))) ≡ length piece + length rest = ap length left ∙ length-append piece rest in
    let shown : length c.push_class.new.out.items ≡ length piece = ap length (c.in_ok-push_class.ensures ∙ ap (λ xs. xs ++ piece) c.clear.ensures.items) in
    let len : c.len.result ≡ length piece = c.len.ensures ∙ c.push_class.new.out.ok.0 ∙ shown in
    record {
      left = omega (arith, l.invariant.left, whole, len, c.saturating_add-len.ensures, l.invariant.fits);
      fits = omega (arith, c.saturating_add-len.ensures);
      own = omega (arith, l.invariant.own);
      before = omega (arith, c.with_class-before.ensures, l.invariant.before, elements_then classes l.class-index item c.loop-class-test.true c.class-item.is);
    }
