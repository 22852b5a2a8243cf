use Rattle.std.proofs.Common.{◌∙◌}
use Rattle.std.proofs.lemmas.List.{length-map}
use Rattle.ulam_heirs.specs.Views.{files_of}
use Rattle.ulam_tree.specs.RawViews.{file_of}
use Rattle.element_set.proofs.EnoughFiles.{found_whole, found_within}
use Rattle.element_set.proofs.flat.flat_files.Goals as goal

pub returns-then-are_few-clause-same : goal.returns-then-are_few-clause-same
returns-then-are_few-clause-same c = found_whole (files_of c.args.files.items) c.args.heads.now c.flatten.result c.flatten.ensures.flat

pub returns-clause-same : goal.returns-clause-same
returns-clause-same c =
    found_within (files_of c.args.files.items) c.args.heads.now c.flatten_within.result (length-map c.args.files.items file_of ∙ c.requires) c.flatten_within.ensures.flat
