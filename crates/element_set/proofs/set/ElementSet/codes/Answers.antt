use Rattle.std.proofs.Common.{length, ap, ◌∙◌}
use Rattle.std.proofs.lemmas.List.{length-map}
use Rattle.ulam_meaning.specs.Programs.{element_classes}
use Rattle.ulam_tree.specs.TypedViews.{typed_program}
use Rattle.code_gen.specs.Compiling.{class_code}
use Rattle.element_set.specs.Sets.{program_of, set_value}
use Rattle.element_set.proofs.Counting.{element_count}
use Rattle.element_set.proofs.set.ElementSet.codes.Goals as goal

pub returns-clause-each : goal.returns-clause-each
returns-clause-each c =
    let classes = typed_program c.args.self.now.typed in
    let g = program_of (set_value c.args.self.now) in
    ap length (c.as_slice.ensures.value ∙ c.args.self.now.coded) ∙ length-map (element_classes 0 classes) (class_code g) ∙ element_count 0 classes
