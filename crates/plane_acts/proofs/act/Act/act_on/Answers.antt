use Rattle.std.proofs.Common.{ℕ, refl, sym, subst}
use Rattle.cell_grid.specs.declared.marks.Rectangle.{Rectangle}
use Rattle.plane_acts.specs.Acts.{area_of}
use Rattle.plane_acts.specs.Steps.{Start, IsUpTo, sites_above}
use Rattle.plane_acts.proofs.Sites.{fits-act, row_end}
use Rattle.plane_acts.proofs.Steps.{act-begun, act-ended, act-left}
use Rattle.plane_acts.proofs.act.Act.act_on.Goals as goal

pub loop-y-init : goal.loop-y-init
loop-y-init c =
    let a = c.args in
    record {
      step = λ seed n at.
          let s : Start = record { seed = seed; first = n; grid = a.grid.now } in
          let P : Rectangle → Type 0 = λ area. IsUpTo a.self.now s (sites_above (area_of a.self.now) area.top) a.words.now a.grid.now in
          subst P (sym c.area-area.ensures) (act-begun a.self.now seed n a.words.now a.grid.now at);
      plane = (refl, refl, refl);
    }

pub returns-clause-grid : goal.returns-clause-grid
returns-clause-grid c = λ seed n at.
    let a = c.args in
    let l = c.loop-y in
    let s : Start = record { seed = seed; first = n; grid = a.grid.now } in
    let P : ℕ → Type 0 = λ y. IsUpTo a.self.now s (sites_above (area_of a.self.now) y) l.words l.grid in
    let fits = fits-act a.grid.now.width a.grid.now.height a.self.now c.requires in
    let end = row_end (area_of a.self.now) c.area-area.result l.y c.area-area.ensures fits.top c.loop-y-test.false l.auto.y-end in
    act-left a.self.now s l.words l.grid (subst P end (l.invariant.step seed n at))

pub returns-clause-words : goal.returns-clause-words
returns-clause-words c = λ seed n at.
    let a = c.args in
    let l = c.loop-y in
    let s : Start = record { seed = seed; first = n; grid = a.grid.now } in
    let P : ℕ → Type 0 = λ y. IsUpTo a.self.now s (sites_above (area_of a.self.now) y) l.words l.grid in
    let fits = fits-act a.grid.now.width a.grid.now.height a.self.now c.requires in
    let end = row_end (area_of a.self.now) c.area-area.result l.y c.area-area.ensures fits.top c.loop-y-test.false l.auto.y-end in
    (act-ended a.self.now s l.words l.grid (subst P end (l.invariant.step seed n at))).words_at
