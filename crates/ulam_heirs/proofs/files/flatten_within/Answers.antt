use Rattle.std.proofs.Common.{◌≡◌, ◌∙◌, sym, List, length}
use Rattle.std.proofs.lemmas.List.{length-map}
use Rattle.ulam_tree.specs.Raw.{Item}
use Rattle.ulam_tree.specs.RawViews.{file_of}
use Rattle.ulam_heirs.specs.Heads.{Heads}
use Rattle.ulam_heirs.specs.Views.{files_of}
use Rattle.ulam_heirs.proofs.MadeFiles.{plain_stay}
use Rattle.ulam_heirs.proofs.Plain.{plain_same}
use Rattle.ulam_heirs.proofs.files.flatten_within.Goals as goal

pub returns-then-all_plain-clause-flat : goal.returns-then-all_plain-clause-flat
returns-then-all_plain-clause-flat c =
    plain_stay c.args.classes c.args.members (files_of c.args.files.items) c.args.heads.now (sym c.all_plain.ensures ∙ c.if-all_plain.true)

pub returns-then-all_plain-clause-sound : goal.returns-then-all_plain-clause-sound
returns-then-all_plain-clause-sound c =
    let fs : List (List Item) = files_of c.args.files.items in
    let hs : List Heads = c.args.heads.now in
    let long : length fs ≡ length hs = length-map c.args.files.items file_of ∙ c.requires in
    (plain_same fs hs long (sym c.all_plain.ensures ∙ c.if-all_plain.true)).0
