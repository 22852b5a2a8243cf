use Rattle.std.proofs.Common.{rules, ◌≡◌, length, sym, ap, ◌∙◌, arith}
use Rattle.window_sites.specs.Inner.{inner_window}
use Rattle.border_cache.specs.Cells.{paired_cells, cell_atoms}
use Rattle.border_cache.proofs.Planes.{length-cells, atoms-cells}
use Rattle.border_cache.proofs.cells.Cells.read_window.Goals as goal

pub refill-requires-clause-whole : goal.refill-requires-clause-whole
refill-requires-clause-whole c =
    let f = c.self.inside in
    let is : length (paired_cells f.stamps.items f.atoms.items) ≡ length c.args.self.now = ap length c.self.view_is in
    let value : length c.as_slice.result.now ≡ length f.atoms.items = search rules in
    omega (arith, c.requires.whole, is, length-cells f.stamps.items f.atoms.items c.self.invariant, value)

pub returns : goal.returns
returns c =
    let f = c.self.inside in
    let e : c.refill.new.self ≡ inner_window f.atoms.items c.args.low c.args.width = search rules in
    e ∙ ap (λ atoms. inner_window atoms c.args.low c.args.width) (sym (atoms-cells f.stamps.items f.atoms.items c.self.invariant) ∙ ap cell_atoms c.self.view_is)
