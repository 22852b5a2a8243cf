use Rattle.std.proofs.Common.{◌≡◌, [], length, map, sym, subst, ◌∙◌, arith}
use Rattle.std.proofs.Common.{ap}
use Rattle.ulam_tree.specs.TypedViews.{typed_class, typed_program}
use Rattle.element_set.specs.Names.{names_in, AreNew}
use Rattle.element_set.proofs.Counting.{few_elements}
use Rattle.element_set.proofs.NewNames.{new_elements}
use Rattle.element_set.proofs.set.ElementSet.of.Goals as goal

pub numbers_of-requires-clause-few : goal.numbers_of-requires-clause-few
numbers_of-requires-clause-few c =
    let is : c.as_slice-2.result.now ≡ names_in (typed_program c.args.typed) = c.as_slice-2.ensures.value ∙ c.in_ok-names.ensures ∙ ap (λ cs. names_in (map typed_class cs)) c.as_slice.ensures.value in
    omega (arith, ap length is, few_elements (typed_program c.args.typed), c.requires.named.few)

pub numbers_of-requires-clause-new : goal.numbers_of-requires-clause-new
numbers_of-requires-clause-new c =
    let is : c.as_slice-2.result.now ≡ names_in (typed_program c.args.typed) = c.as_slice-2.ensures.value ∙ c.in_ok-names.ensures ∙ ap (λ cs. names_in (map typed_class cs)) c.as_slice.ensures.value in
    subst (AreNew []) (sym is) (new_elements [] [] (typed_program c.args.typed) (λ n h. h) c.requires.named.new)
