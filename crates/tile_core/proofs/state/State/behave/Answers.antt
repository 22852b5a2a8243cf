use Rattle.std.proofs.Common.{rules, ap, sym, ◌∙◌, ◌≡◌, subst, true, ℕ}
use Rattle.bit_field.specs.Atom.{empty_atom}
use Rattle.tile_map.specs.Plane.{MapValue, is_held, is_live, site}
use Rattle.border_cache.specs.Cells.{CellValue}
use Rattle.border_cache.specs.Windows.{IsView}
use Rattle.border_cache.specs.Copies.{window_cells}
use Rattle.tile_core.specs.Values.{centre}
use Rattle.tile_core.specs.Kept.{value_of, window_seen}
use Rattle.tile_core.proofs.Behaving.{behaving}
use Rattle.border_cache.proofs.Stored.{centre_held}
use Rattle.tile_core.proofs.Idle.{seen_centre}
use Rattle.tile_core.proofs.Kept.{idled, acted}
use Rattle.tile_core.proofs.state.State.behave.Goals as goal

pub cell-requires : goal.cell-requires
cell-requires g c =
    let q = c.requires.phase.1 in
    let t = value_of c.args.self.now in
    let m = c.args.map.now in
    let drawn = (behaving m q.0 q.1 q.2 t c.requires.phase.0 q.4 q.3).0 in
    subst (λ (x : MapValue × ℕ). is_held x.0 x.1 (centre t) ≡ true) (λ i. (sym q.4.map i, sym q.4.owner i)) (centre_held m c.laws.ensures.plane t.number (centre t) drawn.centre_is)

pub returns-then-self-clause-behaves : goal.returns-then-self-clause-behaves
returns-then-self-clause-behaves g c =
    let q = c.requires.phase.1 in
    let s = c.args.self.now in
    let p = site s.x s.y in
    let t = value_of s in
    let m = c.args.map.now in
    let live = (behaving m q.0 q.1 q.2 t c.requires.phase.0 q.4 q.3).0.centre_is.live in
    let own = subst (λ k. is_live k p ≡ true) (sym q.4.map) live in
    let none : c.cell.result.1 ≡ empty_atom = search rules in
    let empty = seen_centre s.cache p own ∙ (ap (λ (x : CellValue). x.atom) (sym c.cell.ensures) ∙ none) in
    idled m (g.B.Behave.after c.args.behave.now) s c.eq-self.result c.if-self.true q.4.map live (g.met.B.Behave.idle c.args.behave.now (window_seen s.cache p) s.seed empty)

pub returns-clause-behaves : goal.returns-clause-behaves
returns-clause-behaves g c =
    let s = c.args.self.now in
    let p = site s.x s.y in
    let view = c.read_window.new.window in
    let shows = subst (λ k. IsView k p (window_cells s.cache p) view) c.requires.phase.1.4.map c.read_window.ensures in
    acted c.args.map.now (g.B.Behave.after c.args.behave.now) s c.eq-self.result view c.act.new.window c.if-self.false shows c.act.ensures.window
