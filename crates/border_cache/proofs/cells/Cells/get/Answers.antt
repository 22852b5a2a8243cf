use Rattle.std.proofs.Common.{◌≡◌, ◌<◌, length, refl, sym, ap, ◌∙◌, arith}
use Rattle.std.specs.Prelude.{slice_index_or}
use Rattle.std.proofs.lemmas.List.{get_or_read_under}
use Rattle.bit_field.specs.Atom.{empty_atom}
use Rattle.border_cache.specs.Cells.{cell_value, paired_cells}
use Rattle.border_cache.specs.News.{no_cell}
use Rattle.border_cache.proofs.Planes.{length-cells, cell_in_both}
use Rattle.border_cache.proofs.cells.Cells.get.Goals as goal

pub index-requires : goal.index-requires
index-requires c =
    let f = c.self.inside in
    let is : length (paired_cells f.stamps.items f.atoms.items) ≡ length c.args.self.now = ap length c.self.view_is in
    omega (arith, c.requires, is, length-cells f.stamps.items f.atoms.items c.self.invariant, c.self.invariant, f.stamps.ok.0)

pub index-requires-2 : goal.index-requires-2
index-requires-2 c =
    let f = c.self.inside in
    let is : length (paired_cells f.stamps.items f.atoms.items) ≡ length c.args.self.now = ap length c.self.view_is in
    omega (arith, c.requires, is, length-cells f.stamps.items f.atoms.items c.self.invariant, f.atoms.ok.0)

pub returns : goal.returns
returns c =
    let f = c.self.inside in
    let k = c.args.place in
    let is : length (paired_cells f.stamps.items f.atoms.items) ≡ length c.args.self.now = ap length c.self.view_is in
    let long = length-cells f.stamps.items f.atoms.items c.self.invariant in
    let inside : k < length f.atoms.items = omega (arith, c.requires, is, long) in
    let a = get_or_read_under f.stamps.items k (length f.stamps.items) c.index.result.now 0 c.index.ensures (omega (arith, inside, c.self.invariant)) refl in
    let b = get_or_read_under f.atoms.items k (length f.atoms.items) c.index-2.result.now empty_atom c.index-2.ensures inside refl in
    c.new.ensures ∙ ((λ i. cell_value (a i) (b i)) ∙ (sym (cell_in_both f.stamps.items f.atoms.items k c.self.invariant) ∙ ap (λ cells. slice_index_or cells k no_cell) c.self.view_is))
