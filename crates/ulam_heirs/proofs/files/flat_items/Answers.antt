use Rattle.std.proofs.Common.{◌≡◌, ◌≤◌, ◌∙◌, sym, ap, ◌+◌, List, [], ◌∷◌, ◌++◌, map, drop, arith, append_assoc}
use Rattle.std.proofs.lemmas.List.{at_drop_more, map-append}
use Rattle.ulam_tree.specs.Raw as t
use Rattle.ulam_tree.specs.RawViews.{item_of}
use Rattle.ulam_tree.specs.declared.raw.Item.{Item}
use Rattle.ulam_heirs.specs.Lines.{Heir}
use Rattle.ulam_heirs.specs.Files.{class_count, flat_items}
use Rattle.ulam_heirs.specs.Within.{cut_items}
use Rattle.ulam_heirs.specs.Views.{heirs_of}
use Rattle.ulam_heirs.proofs.NextFile.{count_one, item_on, number_on}
use Rattle.ulam_heirs.proofs.files.flat_items.Goals as goal

pub flat_item-requires-clause-small : goal.flat_item-requires-clause-small
flat_item-requires-clause-small c =
    let xs : List Item = c.args.items.now in
    let item : Item = c.item-item.result in
    let rest : List t.Item = map item_of (drop (c.loop-item.item-index + 1) xs) in
    let here : class_count (map item_of (drop c.loop-item.item-index xs)) ≡ class_count (item_of item ∷ rest) =
    at_drop_more (λ (zs : List Item). class_count (map item_of zs)) xs c.loop-item.item-index item c.loop-item-test.true ∙ ap (λ (x : Item). class_count (item_of x ∷ rest)) (sym c.item-item.is) in
    let one : class_count (item_of item ∷ []) ≤ class_count (item_of item ∷ rest) = count_one (item_of item) rest in
    omega (arith, here, one, c.loop-item.invariant.next, c.requires.small)

pub loop-item-preserved : goal.loop-item-preserved
loop-item-preserved c =
    let hs : List Heir = heirs_of c.args.heirs.now in
    let xs : List Item = c.args.items.now in
    let item : Item = c.item-item.result in
    let rest : List t.Item = map item_of (drop (c.loop-item.item-index + 1) xs) in
    let found : List t.Item = map item_of c.loop-item.found.items in
    record {
      flat =
          c.loop-item.invariant.flat
          ∙ at_drop_more (λ (zs : List Item). found ++ cut_items c.args.most (flat_items hs c.loop-item.number (map item_of zs))) xs c.loop-item.item-index item c.loop-item-test.true
          ∙ ap (λ (x : Item). found ++ cut_items c.args.most (flat_items hs c.loop-item.number (item_of x ∷ rest))) (sym c.item-item.is)
          ∙ ap (λ (zs : List t.Item). found ++ zs) (item_on c.args.most hs c.loop-item.number c.in_ok-flat.next (item_of item) (item_of c.in_ok-flat.flat) rest c.in_ok-flat.ensures.item c.in_ok-flat.ensures.next)
          ∙ sym (append_assoc found (item_of c.in_ok-flat.flat ∷ []) (cut_items c.args.most (flat_items hs c.in_ok-flat.next rest)))
          ∙ ap (λ (zs : List t.Item). zs ++ cut_items c.args.most (flat_items hs c.in_ok-flat.next rest)) (sym (ap (map item_of) c.in_ok-push.ensures.items ∙ map-append item_of c.loop-item.found.items (c.in_ok-flat.flat ∷ [])));
      next =
          number_on c.loop-item.number c.in_ok-flat.next (item_of item) rest c.in_ok-flat.ensures.next
          ∙ ap (λ (x : Item). c.loop-item.number + class_count (item_of x ∷ rest)) c.item-item.is
          ∙ sym (at_drop_more (λ (zs : List Item). c.loop-item.number + class_count (map item_of zs)) xs c.loop-item.item-index item c.loop-item-test.true)
          ∙ c.loop-item.invariant.next;
    }
