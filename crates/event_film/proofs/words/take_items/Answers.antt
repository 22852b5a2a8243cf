use Rattle.std.proofs.Common.{◌≡◌, ◌<◌, ◌+◌, ◌-◌, ◌∙◌, ◌∷◌, suc, arith, drop, length, subst, sym}
use Rattle.std.proofs.Math.Seq.{drop-cons}
use Rattle.std.proofs.lemmas.List.{length-drop}
use Rattle.event_film.specs.Marks.{unpacked}
use Rattle.event_film.proofs.Packs.{AreTaken, one_left, taken_all, taken_more}
use Rattle.event_film.proofs.words.take_items.Goals as goal

pub loop-n-preserved : goal.loop-n-preserved
loop-n-preserved g c =
    let l = c.loop-n in
    let marks = c.args.marks.now in
    let items = c.args.items.now.items in
    let old = drop (c.len.result - c.count.result) items in
    let x = c.index.result.now in
    let some = one_left c.args.blank marks old l.row l.sites c.next.new.self c.in-Some.n (drop l.at items) l.invariant c.in-Some.ensures in
    let here : l.at < length items = omega (arith, some, length-drop l.at items) in
    let next : suc l.at ≡ l.at + 1 = omega arith in
    let first : drop l.at items ≡ x ∷ drop (l.at + 1) items = drop-cons items l.at x here ∙ (λ i. sym c.index.ensures i ∷ drop (next i) items) in
    taken_more c.args.blank marks old l.row l.sites c.next.new.self c.in-Some.n x (drop (l.at + 1) items)
    (subst (λ left. AreTaken c.args.blank marks old l.sites l.row left) first l.invariant) c.in-Some.ensures

pub returns-clause-row : goal.returns-clause-row
returns-clause-row g c =
    let l = c.loop-n in
    let marks = c.args.marks.now in
    let items = c.args.items.now.items in
    taken_all c.args.blank marks (drop (c.len.result - c.count.result) items) l.row l.sites c.next.new.self (drop l.at items) l.invariant c.in_default.ensures
    ∙ (λ i. unpacked c.args.blank marks (drop (c.len.ensures i - c.count.ensures i) items))
