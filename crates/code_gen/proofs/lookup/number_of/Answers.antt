use Rattle.std.proofs.Common.{◌≡◌, suc, ◌∙◌, ap, map, take, arith}
use Rattle.ulam_tree.specs.TypedViews.{typed_class}
use Rattle.ulam_meaning.specs.Programs.{count_elements, number_of}
use Rattle.code_gen.proofs.ElementRounds.{count_on, few_on}
use Rattle.code_gen.proofs.lookup.number_of.Goals as goal

pub returns-then-k-class : goal.returns-then-k-class
unfolding number_of
returns-then-k-class c =
    let here : c.loop-k.k ≡ suc c.args.class = omega arith in
    c.loop-k.invariant.counted
    ∙ ap (λ n. count_elements (take n (map typed_class c.as_slice-all.result.now))) here
    ∙ ap (λ xs. count_elements (take (suc c.args.class) (map typed_class xs))) c.as_slice-all.ensures.value

pub loop-k-preserved : goal.loop-k-preserved
loop-k-preserved c = record {
  counted = count_on c.as_slice-all.result.now c.loop-k.k c.index-all-k.result c.loop-k.number c.with_class-number.result c.loop-k-test.true c.index-all-k.is c.loop-k.invariant.counted c.with_class-number.ensures;
  few = few_on c.index-all-k.result.quark c.loop-k.number c.with_class-number.result c.loop-k.k c.with_class-number.ensures c.loop-k.invariant.few;
  within = omega arith;
}
