use Rattle.std.proofs.Common.{◌≡◌, length, None, refl, ap, subst, ◌∙◌, rules}
use Rattle.std.proofs.lemmas.List.{length-map}
use Rattle.ulam_heirs.specs.Faults.{first_fault}
use Rattle.ulam_heirs.specs.Files.{all_heirs}
use Rattle.ulam_heirs.specs.Views.{files_of}
use Rattle.ulam_names.specs.Files.{all_items}
use Rattle.ulam_names.specs.Classes.{program}
use Rattle.element_set.specs.Sets.{set_value}
use Rattle.element_set.specs.Stages as stage
use Rattle.element_set.specs.Told.{flat_row, trees_value}
use Rattle.element_set.proofs.Telling.{tells_then, tells_like}
use Rattle.element_set.proofs.build.flat_set.Goals as goal

pub returns : goal.returns
returns c =
    let trees = c.args.trees in
    let files = files_of trees.files.items in
    let value = c.as_slice.ensures.value in
    let heads = trees.heads.items in
    let sound = subst (λ hs. first_fault (all_heirs files hs) ≡ None) value c.in_ok-flat.ensures.sound in
    let same = subst (λ hs. program (all_items c.in_ok-flat.flat.items) ≡ program (flat_row files hs)) value c.in_ok-flat.ensures.same in
    let tells = tells_like set_value (all_items c.in_ok-flat.flat.items) (flat_row files heads) same c.named_set.result c.named_set.ensures in
    tells_then set_value (stage.flat (trees_value trees)) stage.named_set (flat_row files heads) c.named_set.result (sound, refl) tells

pub returns-in_err-flat : goal.returns-in_err-flat
returns-in_err-flat c = search rules
