use Rattle.std.proofs.Common.{◌≡◌, ◌-◌, ◌+◌, ◌∙◌, ap, refl, List, [], ◌∷◌, length, map, arith}
use Rattle.std.proofs.lemmas.List.{map-append, length-map, length-append}
use Rattle.ulam_heirs.specs.declared.opened.Change.{Change as CodeChange}
use Rattle.ulam_heirs.specs.OpenedViews.{change_of, state_of}
use Rattle.ulam_heirs.proofs.Tables.{put_is, back_one}
use Rattle.ulam_heirs.proofs.opened.take_back.Goals as goal

pub returns-in_ok-insert : goal.returns-in_ok-insert
returns-in_ok-insert c =
    let old : List CodeChange = c.args.opened.now.changes.items in
    let left : List CodeChange = c.pop.new.self.items in
    let more : length old ≡ length left + 1 = ap length c.in-Some.ensures.items ∙ length-append left (c.in-Some.change ∷ []) in
    let few : length (map change_of left) ≡ length left = length-map left change_of in
    back_one (state_of c.args.opened.now) (state_of (record { latest = c.insert.new.self; changes = c.pop.new.self })) (map change_of left) (change_of c.in-Some.change) (length old - 1)
    (ap (map change_of) c.in-Some.ensures.items ∙ map-append change_of left (c.in-Some.change ∷ [])) (omega (arith, more, few)) refl
    (put_is c.args.opened.now.latest.entries c.insert.new.self.entries c.in-Some.change.name c.in-Some.change.before c.in_ok-insert.ensures.entries)
