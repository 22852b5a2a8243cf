use Rattle.std.proofs.Common.{rules, ◌≡◌, length, sym, ap, ◌∙◌, subst, arith}
use Rattle.std.specs.Vec.{with_items}
use Rattle.std.proofs.lemmas.List.{with_items_is}
use Rattle.border_cache.specs.Cells.{paired_cells}
use Rattle.border_cache.specs.Rows.{GivesWhole, AreStamped, stamped_at}
use Rattle.border_cache.proofs.Planes.{length-cells}
use Rattle.border_cache.proofs.Given.{stamped_whole}
use Rattle.border_cache.proofs.cells.Cells.stamp.Goals as goal

pub stamp_rows-requires-clause-whole : goal.stamp_rows-requires-clause-whole
stamp_rows-requires-clause-whole c =
    let f = c.self.inside in
    let is : length (paired_cells f.stamps.items f.atoms.items) ≡ length c.args.self.now = ap length c.self.view_is in
    let value : length c.as_mut_slice.result.now ≡ length f.stamps.items = search rules in
    omega (arith, c.requires.whole, is, length-cells f.stamps.items f.atoms.items c.self.invariant, c.self.invariant, value)

pub returns : goal.returns
returns c =
    let f = c.self.inside in
    let low = c.args.low in
    let width = c.args.width in
    let stamp = c.args.stamp in
    let now = c.stamp_rows.new.stamps in
    let value : c.as_mut_slice.result.now ≡ f.stamps.items = search rules in
    let s : AreStamped low width stamp f.stamps.items now = subst (λ xs. AreStamped low width stamp xs now) value c.stamp_rows.ensures.stamped in
    let size : length now ≡ length f.stamps.items = c.stamp_rows.ensures.size ∙ ap length value in
    let keep = with_items_is f.stamps now (size ∙ sym f.stamps.ok.0) in
    let old = paired_cells f.stamps.items f.atoms.items in
    let g = stamped_whole low width stamp f.stamps.items now f.atoms.items c.self.invariant size s in
    let h = subst (λ xs. GivesWhole low width (stamped_at old low width stamp) old (paired_cells xs f.atoms.items)) (sym keep) g in
    subst (λ o. GivesWhole low width (stamped_at o low width stamp) o (paired_cells (with_items f.stamps now).items f.atoms.items)) c.self.view_is h
