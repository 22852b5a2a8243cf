use Rattle.std.proofs.Common.{◌≡◌, ◌∙◌, sym, ap, List, ◌∷◌, ◌+◌, drop, map, refl}
use Rattle.std.proofs.lemmas.List.{at_drop_more}
use Rattle.ulam_names.proofs.Faults.{passed_on}
use Rattle.ulam_tree.specs.RawViews.{item_of}
use Rattle.ulam_tree.specs.declared.raw.Item.{Item}
use Rattle.ulam_tree.specs.Found.{◌>>=◌, with_front}
use Rattle.ulam_names.specs.Classes as walk
use Rattle.ulam_names.specs.Shown.{half_class}
use Rattle.ulam_names.proofs.Items.{item_fails, items_on}
use Rattle.ulam_names.proofs.class.file_items.Goals as goal

pub returns-in_err-item : goal.returns-in_err-item
returns-in_err-item c =
    let xs : List Item = c.args.raw.now in
    let rest : List Item = drop (c.loop-one.one-index + 1) xs in
    let front : List walk.HalfClass = map half_class c.loop-one.found.items in
    let e : with_front (map half_class c.args.found.now.items) (walk.items c.args.known.now (map item_of xs)) ≡ (with_front front (walk.item c.args.known.now (item_of c.one-item.result)) >>= λ (p : List walk.HalfClass). with_front p (walk.items c.args.known.now (map item_of rest))) =
    c.loop-one.invariant
    ∙ at_drop_more (λ (zs : List Item). with_front front (walk.items c.args.known.now (map item_of zs))) xs c.loop-one.one-index c.one-item.result c.loop-one-test.true
    ∙ ap (λ (x : Item). with_front front (walk.items c.args.known.now (item_of x ∷ map item_of rest))) (sym c.one-item.is)
    ∙ item_fails c.args.known.now front (item_of c.one-item.result) (map item_of rest) in
    passed_on _ _ _ _ _ c.from_residual.ensures c.in_err-item.ensures (λ f h. e ∙ rw h refl)

pub loop-one-preserved : goal.loop-one-preserved
loop-one-preserved c =
    let xs : List Item = c.args.raw.now in
    let rest : List Item = drop (c.loop-one.one-index + 1) xs in
    let front : List walk.HalfClass = map half_class c.loop-one.found.items in
    c.loop-one.invariant
    ∙ at_drop_more (λ (zs : List Item). with_front front (walk.items c.args.known.now (map item_of zs))) xs c.loop-one.one-index c.one-item.result c.loop-one-test.true
    ∙ ap (λ (x : Item). with_front front (walk.items c.args.known.now (item_of x ∷ map item_of rest))) (sym c.one-item.is)
    ∙ items_on c.args.known.now front (map half_class c.item.new.found.items) (item_of c.one-item.result) (map item_of rest) c.in_ok-item.ensures
