use Rattle.std.proofs.Common.{rules, ap, sym, ◌∙◌, ◌≡◌, ◌+◌, ◌*◌, get_or}
use Rattle.bit_field.specs.Atom.{empty_atom}
use Rattle.window_sites.specs.Inner.{inner_window}
use Rattle.cell_grid.specs.Grid.{window_of, put_window}
use Rattle.cell_grid.proofs.Corners.{window_of-inner}
use Rattle.cell_grid.proofs.Windows.{centre-atom, put-back}
use Rattle.cell_grid.proofs.grid.Grid.event_in.Goals as goal

pub returns-then-eq-clause-grid : goal.returns-then-eq-clause-grid
returns-then-eq-clause-grid g c =
    let s = c.args.self.now in
    let x = c.args.x in
    let y = c.args.y in
    let e : get_or s.atoms (y * s.width + x) empty_atom ≡ empty_atom = search rules in
    let quiet = g.met.B.Behave.idle c.args.behave.now (window_of s x y) c.args.seed (centre-atom s x y c.requires.live ∙ e) in
    sym (ap (put_window s x y) quiet ∙ put-back s x y)

pub returns-in-Some-clause-grid : goal.returns-in-Some-clause-grid
returns-in-Some-clause-grid g c =
    let s = c.args.self.now in
    let x = c.args.x in
    let y = c.args.y in
    let e : c.refill.new.self ≡ inner_window s.atoms c.in-Some.low s.width = search rules in
    let shown = e ∙ window_of-inner s x y c.in-Some.low c.in-Some.ensures in
    let left = c.act.ensures.window ∙ ap (λ w. g.B.Behave.after c.args.behave.now w c.args.seed) shown in
    c.put_window.ensures.grid ∙ ap (put_window s x y) left
