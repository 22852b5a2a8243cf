use Rattle.std.proofs.Common.{rules, ap, sym, ◌∙◌, ◌≡◌, ◌+◌, ◌*◌, get_or}
use Rattle.bit_field.specs.Atom.{empty_atom}
use Rattle.cell_grid.specs.Grid.{window_of, put_window}
use Rattle.cell_grid.proofs.Windows.{centre-atom, put-back}
use Rattle.cell_grid.proofs.grid.Grid.event.Goals as goal

pub returns-else-ne-clause-grid : goal.returns-else-ne-clause-grid
returns-else-ne-clause-grid g c =
    let s = c.args.self.now in
    let x = c.args.x in
    let y = c.args.y in
    let e : get_or s.atoms (y * s.width + x) empty_atom ≡ empty_atom = search rules in
    let quiet = g.met.B.Behave.idle c.args.behave.now (window_of s x y) c.args.seed (centre-atom s x y c.requires.live ∙ e) in
    sym (ap (put_window s x y) quiet ∙ put-back s x y)
