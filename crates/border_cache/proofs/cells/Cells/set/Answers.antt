use Rattle.std.proofs.Common.{◌≡◌, length, ap, ◌∙◌, arith}
use Rattle.std.specs.Prelude.{slice_set}
use Rattle.border_cache.specs.Cells.{paired_cells}
use Rattle.border_cache.proofs.Planes.{length-cells, set-cells}
use Rattle.border_cache.proofs.cells.Cells.set.Goals as goal

pub index_mut-requires : goal.index_mut-requires
index_mut-requires c =
    let f = c.self.inside in
    let is : length (paired_cells f.stamps.items f.atoms.items) ≡ length c.args.self.now = ap length c.self.view_is in
    omega (arith, c.requires, is, length-cells f.stamps.items f.atoms.items c.self.invariant, c.self.invariant, f.stamps.ok.0)

pub index_mut-requires-2 : goal.index_mut-requires-2
index_mut-requires-2 c =
    let f = c.self.inside in
    let is : length (paired_cells f.stamps.items f.atoms.items) ≡ length c.args.self.now = ap length c.self.view_is in
    omega (arith, c.requires, is, length-cells f.stamps.items f.atoms.items c.self.invariant, f.atoms.ok.0)

pub returns : goal.returns
returns c =
    let f = c.self.inside in
    let k = c.args.place in
    (λ i. paired_cells (slice_set f.stamps.items k (c.stamp.ensures i)) (slice_set f.atoms.items k (c.atom.ensures i)))
    ∙ (set-cells f.stamps.items f.atoms.items k c.args.cell.stamp c.args.cell.atom ∙ ap (λ cells. slice_set cells k c.args.cell) c.self.view_is)
