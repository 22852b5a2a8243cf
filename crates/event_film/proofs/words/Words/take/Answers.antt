use Rattle.std.proofs.Common.{◌-◌, All, drop, subst, sym}
use Rattle.std.specs.Vec.{vec_len}
use Rattle.std.proofs.lemmas.List.Elements.{All-drop}
use Rattle.bit_field.specs.Atom.{LeavesGap}
use Rattle.event_film.specs.Marks.{marked}
use Rattle.event_film.proofs.Gaps.{gaps_unpacked}
use Rattle.event_film.proofs.words.Words.take.Goals as goal

pub join-requires : goal.join-requires
join-requires c =
    let s = c.self.inside in
    let marks = c.args.frame.now.highs in
    let start = vec_len s.highs - marked marks in
    subst (All LeavesGap) (sym c.take_items-highs.ensures.row) (gaps_unpacked marks (drop start s.highs.items) (All-drop LeavesGap start s.highs.items c.self.invariant.1))
