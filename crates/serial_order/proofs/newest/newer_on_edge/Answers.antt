use Rattle.std.proofs.Common.{◌≡◌, ◌+◌, ◌*◌, ◌∙◌, ap, sym, subst, arith, rules}
use Rattle.bit_field.specs.Atom.{LeavesGap}
use Rattle.tile_map.specs.Plane.{site}
use Rattle.serial_order.specs.Scene.{registers_at}
use Rattle.serial_order.specs.Words.{WordsValue}
use Rattle.serial_order.proofs.EdgeCells.{register_place, gap_at}
use Rattle.serial_order.proofs.newest.newer_on_edge.Goals as goal

pub overflow_add-register : goal.overflow_add-register
overflow_add-register g c =
    let p = register_place c.args.map.now c.args.edge (site c.args.x c.args.y) c.in-Some.register (sym c.register.ensures ∙ c.in-Some.is) in
    omega (arith, p.inside, p.first, c.shared-sites.ensures.count, c.shared-sites.ensures.bound)

pub newer_of-requires : goal.newer_of-requires
newer_of-requires g c =
    let m = c.args.map.now in
    let e = c.args.edge in
    let words = g.E.EdgeWords.words c.args.words.now in
    let p = register_place m e (site c.args.x c.args.y) c.in-Some.register (sym c.register.ensures ∙ c.in-Some.is) in
    let gap = gap_at m words e p.place c.requires.words c.requires.known p.inside in
    let second : c.in-Some.register + 1 ≡ 2 + 2 * p.place = omega (arith, p.first) in
    let is = c.word-high.ensures.value ∙ (ap (λ (w : WordsValue). registers_at w.histories e (c.in-Some.register + 1)) c.word-low.ensures.same ∙ ap (registers_at words.histories e) second) in
    subst LeavesGap (sym is) gap

pub returns-in-Some-clause-cell : goal.returns-in-Some-clause-cell
returns-in-Some-clause-cell g c = search rules
