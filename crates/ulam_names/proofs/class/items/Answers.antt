use Rattle.std.proofs.Common.{◌≡◌, ◌∙◌, sym, ap, List, ◌++◌, ◌+◌, drop, map, refl}
use Rattle.std.proofs.lemmas.List.{at_drop_more}
use Rattle.ulam_names.proofs.Faults.{passed_on}
use Rattle.ulam_tree.specs.RawViews.{item_of, file_of}
use Rattle.ulam_tree.specs.declared.raw.File.{File}
use Rattle.ulam_tree.specs.declared.raw.Item.{Item}
use Rattle.ulam_tree.specs.Found.{◌>>=◌, with_front}
use Rattle.ulam_names.specs.Classes as walk
use Rattle.ulam_names.specs.Files.{all_items}
use Rattle.ulam_names.specs.Shown.{half_class}
use Rattle.ulam_names.proofs.Items.{files_on, items_fail}
use Rattle.ulam_names.proofs.class.items.Goals as goal

pub returns-in_err-file_items : goal.returns-in_err-file_items
returns-in_err-file_items c =
    let xs : List File = c.args.files.now in
    let rest : List File = drop (c.loop-file.file-index + 1) xs in
    let front : List walk.HalfClass = map half_class c.loop-file.found.items in
    let e : walk.items c.args.known.now (all_items xs) ≡ (with_front front (walk.items c.args.known.now (map item_of c.as_slice.result.now)) >>= λ (p : List walk.HalfClass). with_front p (walk.items c.args.known.now (all_items rest))) =
    c.loop-file.invariant
    ∙ at_drop_more (λ (zs : List File). with_front front (walk.items c.args.known.now (all_items zs))) xs c.loop-file.file-index c.file-item.result c.loop-file-test.true
    ∙ ap (λ (x : File). with_front front (walk.items c.args.known.now (file_of x ++ all_items rest))) (sym c.file-item.is)
    ∙ ap (λ (zs : List Item). with_front front (walk.items c.args.known.now (map item_of zs ++ all_items rest))) (sym c.as_slice.ensures.value)
    ∙ items_fail c.args.known.now front (map item_of c.as_slice.result.now) (all_items rest) in
    passed_on _ _ _ _ _ c.from_residual.ensures c.in_err-file_items.ensures (λ f h. e ∙ rw h refl)

pub loop-file-preserved : goal.loop-file-preserved
loop-file-preserved c =
    let xs : List File = c.args.files.now in
    let rest : List File = drop (c.loop-file.file-index + 1) xs in
    let front : List walk.HalfClass = map half_class c.loop-file.found.items in
    c.loop-file.invariant
    ∙ at_drop_more (λ (zs : List File). with_front front (walk.items c.args.known.now (all_items zs))) xs c.loop-file.file-index c.file-item.result c.loop-file-test.true
    ∙ ap (λ (x : File). with_front front (walk.items c.args.known.now (file_of x ++ all_items rest))) (sym c.file-item.is)
    ∙ ap (λ (zs : List Item). with_front front (walk.items c.args.known.now (map item_of zs ++ all_items rest))) (sym c.as_slice.ensures.value)
    ∙ files_on c.args.known.now front (map half_class c.file_items.new.found.items) (map item_of c.as_slice.result.now) (all_items rest) c.in_ok-file_items.ensures
