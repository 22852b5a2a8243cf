use Rattle.std.proofs.Common.{length, ap, ◌∙◌, arith}
use Rattle.ulam_tree.specs.TypedViews.{typed_program}
use Rattle.element_set.proofs.Counting.{few_elements}
use Rattle.element_set.proofs.set.ElementSet.names.Goals as goal

pub returns-clause-few : goal.returns-clause-few
returns-clause-few c =
    let kept = c.args.self.now.kept in
    omega (arith, ap length (c.as_slice.ensures.value ∙ kept.names_is), few_elements (typed_program c.args.self.now.typed), kept.few)
