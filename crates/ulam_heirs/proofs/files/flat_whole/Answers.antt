use Rattle.std.proofs.Common.{◌≡◌, ◌∙◌, ap, List, length, arith}
use Rattle.std.proofs.lemmas.List.{length-map}
use Rattle.ulam_tree.specs.Raw.{Item}
use Rattle.ulam_tree.specs.RawViews.{file_of}
use Rattle.ulam_heirs.specs.Lines.{Heir}
use Rattle.ulam_heirs.specs.Files.{all_heirs, flat_files_from}
use Rattle.ulam_heirs.specs.Views.{heirs_of, files_of}
use Rattle.ulam_heirs.proofs.MadeFiles.{as_many, whole_files}
use Rattle.ulam_heirs.proofs.files.flat_whole.Goals as goal

pub flat_files-requires-clause-small : goal.flat_files-requires-clause-small
flat_files-requires-clause-small c =
    let many = as_many (files_of c.args.files.now) c.args.heads.now c.in_ok-heirs.heirs.items (length-map c.args.files.now file_of ∙ c.requires) c.in_ok-heirs.ensures.heirs in
    let same = ap length c.as_slice.ensures.value in
    omega (arith, many, same)

pub returns-clause-flat : goal.returns-clause-flat
returns-clause-flat c =
    let fs : List (List Item) = files_of c.args.files.now in
    let same : heirs_of c.as_slice.result.now ≡ all_heirs fs c.args.heads.now = ap heirs_of c.as_slice.ensures.value ∙ c.in_ok-heirs.ensures.heirs in
    c.in_ok-flat.ensures ∙ whole_files (flat_files_from (heirs_of c.as_slice.result.now) 0 fs) ∙ ap (λ (hs : List Heir). flat_files_from hs 0 fs) same
