use Rattle.std.proofs.Common.{◌≡◌, ◌∙◌, sym, ap, List, [], ◌++◌, ◌+◌, drop, map, refl}
use Rattle.std.proofs.lemmas.List.{at_drop_more}
use Rattle.ulam_names.proofs.Faults.{passed_on}
use Rattle.ulam_tree.specs.RawViews.{item_of, file_of}
use Rattle.ulam_tree.specs.declared.raw.File.{File}
use Rattle.ulam_tree.specs.declared.raw.Item.{Item}
use Rattle.ulam_tree.specs.Found.{◌>>=◌}
use Rattle.ulam_names.specs.Classes as walk
use Rattle.ulam_names.specs.Files.{all_items}
use Rattle.ulam_names.proofs.Items.{names_on, names_append}
use Rattle.ulam_names.proofs.class.class_names.Goals as goal

pub returns-in_err-file_names : goal.returns-in_err-file_names
returns-in_err-file_names c =
    let xs : List File = c.args.files.now in
    let rest : List File = drop (c.loop-file.file-index + 1) xs in
    let e : walk.class_names [] (all_items xs) ≡ (walk.class_names c.loop-file.known (map item_of c.as_slice.result.now) >>= λ (d : walk.Known). walk.class_names d (all_items rest)) =
    c.loop-file.invariant
    ∙ at_drop_more (λ (zs : List File). walk.class_names c.loop-file.known (all_items zs)) xs c.loop-file.file-index c.file-item.result c.loop-file-test.true
    ∙ ap (λ (x : File). walk.class_names c.loop-file.known (file_of x ++ all_items rest)) (sym c.file-item.is)
    ∙ ap (λ (zs : List Item). walk.class_names c.loop-file.known (map item_of zs ++ all_items rest)) (sym c.as_slice.ensures.value)
    ∙ names_append c.loop-file.known (map item_of c.as_slice.result.now) (all_items rest) in
    passed_on _ _ _ _ _ c.from_residual.ensures c.in_err-file_names.ensures (λ f h. e ∙ rw h refl)

pub loop-file-preserved : goal.loop-file-preserved
loop-file-preserved c =
    let xs : List File = c.args.files.now in
    let rest : List File = drop (c.loop-file.file-index + 1) xs in
    c.loop-file.invariant
    ∙ at_drop_more (λ (zs : List File). walk.class_names c.loop-file.known (all_items zs)) xs c.loop-file.file-index c.file-item.result c.loop-file-test.true
    ∙ ap (λ (x : File). walk.class_names c.loop-file.known (file_of x ++ all_items rest)) (sym c.file-item.is)
    ∙ ap (λ (zs : List Item). walk.class_names c.loop-file.known (map item_of zs ++ all_items rest)) (sym c.as_slice.ensures.value)
    ∙ names_on c.loop-file.known c.file_names.new.known (map item_of c.as_slice.result.now) (all_items rest) c.in_ok-file_names.ensures
