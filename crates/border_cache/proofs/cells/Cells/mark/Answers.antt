use Rattle.std.proofs.Common.{rules, ◌≡◌, ◌+◌, ◌*◌, ◌<◌, ℕ, List, length, sym, ap, ◌∙◌, subst, arith}
use Rattle.std.specs.Vec.{with_items}
use Rattle.std.proofs.lemmas.List.{with_items_is}
use Rattle.bit_field.specs.Atom.{AtomValue}
use Rattle.window_sites.specs.Window.{atom_at}
use Rattle.cell_grid.specs.Inner.{with_inner}
use Rattle.cell_grid.proofs.Corners.{length-with_inner}
use Rattle.border_cache.specs.Cells.{CellValue, cell_value, paired_cells}
use Rattle.border_cache.specs.Rows.{GivesWhole, AreStamped}
use Rattle.border_cache.proofs.Planes.{length-cells}
use Rattle.border_cache.proofs.Given.{marked_whole}
use Rattle.border_cache.proofs.cells.Cells.mark.Goals as goal

pub put_inner-requires-clause-whole : goal.put_inner-requires-clause-whole
put_inner-requires-clause-whole c =
    let f = c.self.inside in
    let is : length (paired_cells f.stamps.items f.atoms.items) ≡ length c.args.self.now = ap length c.self.view_is in
    let value : length c.as_mut_slice.result.now ≡ length f.atoms.items = search rules in
    omega (arith, c.requires.whole, is, length-cells f.stamps.items f.atoms.items c.self.invariant, value)

pub stamp_rows-requires-clause-whole : goal.stamp_rows-requires-clause-whole
stamp_rows-requires-clause-whole c =
    let f = c.self.inside in
    let is : length (paired_cells f.stamps.items f.atoms.items) ≡ length c.args.self.now = ap length c.self.view_is in
    let value : length c.as_mut_slice-2.result.now ≡ length f.stamps.items = search rules in
    omega (arith, c.requires.whole, is, length-cells f.stamps.items f.atoms.items c.self.invariant, c.self.invariant, value)

pub returns : goal.returns
returns c =
    let f = c.self.inside in
    let low = c.args.low in
    let width = c.args.width in
    let stamp = c.args.stamp in
    let w = c.args.window.now in
    let now = c.stamp_rows.new.stamps in
    let left = c.put_inner.new.atoms in
    let old = paired_cells f.stamps.items f.atoms.items in
    let cells : ℕ → CellValue = λ n. cell_value stamp (atom_at w n) in
    let is : length old ≡ length c.args.self.now = ap length c.self.view_is in
    let fits : low + 8 * width + 8 < length f.atoms.items = omega (arith, c.requires.whole, is, length-cells f.stamps.items f.atoms.items c.self.invariant) in
    let value : c.as_mut_slice-2.result.now ≡ f.stamps.items = search rules in
    let s : AreStamped low width stamp f.stamps.items now = subst (λ xs. AreStamped low width stamp xs now) value c.stamp_rows.ensures.stamped in
    let size : length now ≡ length f.stamps.items = c.stamp_rows.ensures.size ∙ ap length value in
    let taken : c.as_mut_slice.result.now ≡ f.atoms.items = search rules in
    let put : left ≡ with_inner f.atoms.items low width w.atoms = c.put_inner.ensures ∙ (λ i. with_inner (taken i) low width (c.atoms.ensures i)) in
    let long : length left ≡ length f.atoms.items = ap length put ∙ length-with_inner f.atoms.items low width w.atoms in
    let keep = with_items_is f.stamps now (size ∙ sym f.stamps.ok.0) in
    let kept = with_items_is f.atoms left (long ∙ sym f.atoms.ok.0) ∙ put in
    let g = marked_whole low width stamp w f.stamps.items now f.atoms.items c.requires.wide fits c.self.invariant size s in
    let h = subst (λ xs. GivesWhole low width cells old (paired_cells xs (with_inner f.atoms.items low width w.atoms))) (sym keep) g in
    let i = subst (λ (ys : List AtomValue). GivesWhole low width cells old (paired_cells (with_items f.stamps now).items ys)) (sym kept) h in
    subst (λ o. GivesWhole low width cells o (paired_cells (with_items f.stamps now).items (with_items f.atoms left).items)) c.self.view_is i
