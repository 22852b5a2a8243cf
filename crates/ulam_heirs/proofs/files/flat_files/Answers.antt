use Rattle.std.proofs.Common.{◌≡◌, ◌∙◌, sym, ap, ◌+◌, List, map, drop, arith}
use Rattle.std.proofs.lemmas.List.{at_drop_more}
use Rattle.ulam_tree.specs.RawViews.{item_of, file_of}
use Rattle.ulam_tree.specs.declared.raw.Item.{Item}
use Rattle.ulam_tree.specs.declared.raw.File.{File}
use Rattle.ulam_heirs.specs.Lines.{Heir}
use Rattle.ulam_heirs.specs.Files.{class_count, all_count, flat_items}
use Rattle.ulam_heirs.specs.Within.{cut_items}
use Rattle.ulam_heirs.specs.Views.{heirs_of, files_of}
use Rattle.ulam_heirs.proofs.NextFile.{file_on, count_on}
use Rattle.ulam_heirs.proofs.files.flat_files.Goals as goal

pub flat_items-requires-clause-small : goal.flat_items-requires-clause-small
flat_items-requires-clause-small c =
    let xs : List File = c.args.files.now in
    let seen : c.as_slice.result.now ≡ c.file-item.result.items.items = c.as_slice.ensures.value in
    let own : class_count (map item_of c.as_slice.result.now) ≡ class_count (file_of c.file-item.result) = ap (λ (zs : List Item). class_count (map item_of zs)) seen in
    let here : all_count (files_of (drop c.loop-file.file-index xs)) ≡ class_count (file_of c.file-item.result) + all_count (files_of (drop (c.loop-file.file-index + 1) xs)) =
    at_drop_more (λ (zs : List File). all_count (files_of zs)) xs c.loop-file.file-index c.file-item.result c.loop-file-test.true
    ∙ ap (λ (x : File). class_count (file_of x) + all_count (files_of (drop (c.loop-file.file-index + 1) xs))) (sym c.file-item.is) in
    omega (arith, own, here, c.loop-file.invariant.next, c.requires.small)

pub loop-file-preserved : goal.loop-file-preserved
loop-file-preserved c =
    let hs : List Heir = heirs_of c.args.heirs.now in
    let xs : List File = c.args.files.now in
    let seen : c.as_slice.result.now ≡ c.file-item.result.items.items = c.as_slice.ensures.value in
    record {
      flat =
          c.loop-file.invariant.flat
          ∙ file_on c.args.most hs xs c.loop-file.found.items c.push.new.self.items c.loop-file.file-index c.loop-file.number c.in_ok-items.next c.file-item.result c.in_ok-items.items c.loop-file-test.true c.file-item.is
          (c.in_ok-items.ensures.items ∙ ap (λ (zs : List Item). cut_items c.args.most (flat_items hs c.loop-file.number (map item_of zs))) seen)
          (c.in_ok-items.ensures.next ∙ ap (λ (zs : List Item). c.loop-file.number + class_count (map item_of zs)) seen)
          c.in_ok-push.ensures.items;
      next =
          count_on xs c.loop-file.file-index c.loop-file.number c.in_ok-items.next c.file-item.result c.loop-file-test.true c.file-item.is (c.in_ok-items.ensures.next ∙ ap (λ (zs : List Item). c.loop-file.number + class_count (map item_of zs)) seen)
          ∙ c.loop-file.invariant.next;
    }
