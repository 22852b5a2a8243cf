use Rattle.std.proofs.Common.{◌≡◌, ◌∙◌, ap, List, Some, length, arith}
use Rattle.std.proofs.lemmas.List.{length-map}
use Rattle.ulam_tree.specs.Raw.{Item}
use Rattle.ulam_tree.specs.RawViews.{file_of}
use Rattle.ulam_heirs.specs.Lines.{Heir}
use Rattle.ulam_heirs.specs.Files.{all_heirs, flat_files, flat_files_from}
use Rattle.ulam_heirs.specs.Within.{cut_files}
use Rattle.ulam_heirs.specs.Views.{heirs_of, files_of}
use Rattle.ulam_heirs.proofs.MadeFiles.{as_many, above_none, above_some}
use Rattle.ulam_heirs.proofs.files.made_within.Goals as goal

pub returns-then-len-classes-clause-flat : goal.returns-then-len-classes-clause-flat
returns-then-len-classes-clause-flat c =
    let many = as_many (files_of c.args.files.now) c.args.heads.now c.in_ok-heirs.heirs.items (length-map c.args.files.now file_of ∙ c.requires) c.in_ok-heirs.ensures.heirs in
    above_none c.args.classes c.args.members (files_of c.args.files.now) c.args.heads.now (omega (arith, many, c.len.ensures, c.if-len-classes.true))

pub flat_files-requires-clause-small : goal.flat_files-requires-clause-small
flat_files-requires-clause-small c =
    let many = as_many (files_of c.args.files.now) c.args.heads.now c.in_ok-heirs.heirs.items (length-map c.args.files.now file_of ∙ c.requires) c.in_ok-heirs.ensures.heirs in
    let same = ap length c.as_slice.ensures.value in
    omega (arith, many, same)

pub returns-clause-flat : goal.returns-clause-flat
returns-clause-flat c =
    let fs : List (List Item) = files_of c.args.files.now in
    let many = as_many fs c.args.heads.now c.in_ok-heirs.heirs.items (length-map c.args.files.now file_of ∙ c.requires) c.in_ok-heirs.ensures.heirs in
    let same : heirs_of c.as_slice.result.now ≡ all_heirs fs c.args.heads.now = ap heirs_of c.as_slice.ensures.value ∙ c.in_ok-heirs.ensures.heirs in
    let made : files_of c.in_ok-flat.flat.items ≡ cut_files (Some c.args.members) (flat_files fs c.args.heads.now) = c.in_ok-flat.ensures ∙ ap (λ (hs : List Heir). cut_files (Some c.args.members) (flat_files_from hs 0 fs)) same in
    ap Some made ∙ above_some c.args.classes c.args.members fs c.args.heads.now (omega (arith, many, c.len.ensures, c.if-len-classes.false))
