use Rattle.std.proofs.Common.{[], ◌++◌, length, get_or, sym, ap, ◌∙◌, arith}
use Rattle.feast_base.proofs.Appending.{Appends-at_exit, more_after, piece_done}
use Rattle.ulam_tree.specs.TypedViews.{typed_class}
use Rattle.element_set.specs.CheckText.{class_after}
use Rattle.element_set.specs.Kept.{set_of_lists}
use Rattle.element_set.proofs.ClassWalk.{row_fits, elements_fit, elements_then, text_left}
use Rattle.element_set.proofs.print.push_classes.Goals as goal

pub push_class-requires-clause-class : goal.push_class-requires-clause-class
push_class-requires-clause-class c =
    let fit = row_fits c.args.classes.now c.args.layout.now c.loop-class.class-index c.class-item.result c.requires.fits c.loop-class-test.true c.class-item.is in
    omega (arith, fit.0, c.loop-class.invariant.own)

pub push_class-requires-clause-fits : goal.push_class-requires-clause-fits
push_class-requires-clause-fits c =
    let l = c.loop-class in
    let fit = row_fits c.args.classes.now c.args.layout.now l.class-index c.class-item.result c.requires.fits c.loop-class-test.true c.class-item.is in
    omega (arith, fit.1, ap (λ n. length (get_or c.args.layout.now n [])) l.invariant.own)

pub push_class-requires-clause-few : goal.push_class-requires-clause-few
push_class-requires-clause-few c =
    let fit = row_fits c.args.classes.now c.args.layout.now c.loop-class.class-index c.class-item.result c.requires.fits c.loop-class-test.true c.class-item.is in
    omega (arith, fit.1, fit.2)

pub push_class-requires-clause-before : goal.push_class-requires-clause-before
push_class-requires-clause-before c =
    omega (arith, c.loop-class.invariant.before, elements_fit c.args.classes.now c.loop-class.class-index c.requires.few)

pub with_class-before-requires : goal.with_class-before-requires
with_class-before-requires c =
    omega (arith, c.loop-class.invariant.before, elements_fit c.args.classes.now c.loop-class.class-index c.requires.few)

pub loop-class-preserved : goal.loop-class-preserved
loop-class-preserved c =
    let classes = c.args.classes.now in
    let s = set_of_lists classes c.args.layout.now in
    let l = c.loop-class in
    let item = c.class-item.result in
    let piece = class_after s l.own l.before (typed_class item) in
    let left = text_left classes c.args.layout.now l.class-index l.own l.before item c.loop-class-test.true c.class-item.is l.invariant.own l.invariant.before in
    let whole = ap (λ xs. l.out.items ++ xs) (sym left) ∙ l.invariant.done in
    record {
      done = piece_done l.out.items _ piece _ _ c.in_ok-push_class.ensures whole;
      kept = more_after _ l.out.items _ l.invariant.kept (_, c.in_ok-push_class.ensures);
      own = omega (arith, l.invariant.own);
      before = omega (arith, c.with_class-before.ensures, l.invariant.before, elements_then classes l.class-index item c.loop-class-test.true c.class-item.is);
    }

pub returns-in_err-push_class : goal.returns-in_err-push_class
returns-in_err-push_class c =
    Appends-at_exit _ c.args.out.now.items c.loop-class.out.items _ _ c.from_residual.result c.from_residual.ensures.1 c.loop-class.invariant.kept c.in_err-push_class.ensures
