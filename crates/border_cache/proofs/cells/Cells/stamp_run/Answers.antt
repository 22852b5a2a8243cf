use Rattle.std.proofs.Common.{rules, ◌≡◌, length, sym, ap, ◌∙◌, subst, arith}
use Rattle.std.specs.Vec.{with_items}
use Rattle.std.proofs.lemmas.List.{with_items_is}
use Rattle.border_cache.specs.Cells.{paired_cells}
use Rattle.border_cache.specs.Rows.{StampsRun, StampsCells}
use Rattle.border_cache.proofs.Planes.{length-cells}
use Rattle.border_cache.proofs.BorderRows.{stamped_cells}
use Rattle.border_cache.proofs.cells.Cells.stamp_run.Goals as goal

pub stamp_run-requires : goal.stamp_run-requires
stamp_run-requires c =
    let f = c.self.inside in
    let is : length (paired_cells f.stamps.items f.atoms.items) ≡ length c.args.self.now = ap length c.self.view_is in
    let value : length c.as_mut_slice.result.now ≡ length f.stamps.items = search rules in
    omega (arith, c.requires, is, length-cells f.stamps.items f.atoms.items c.self.invariant, c.self.invariant, value)

pub returns : goal.returns
returns c =
    let f = c.self.inside in
    let now = c.stamp_run.new.stamps in
    let value : c.as_mut_slice.result.now ≡ f.stamps.items = search rules in
    let s : StampsRun c.args.first c.args.count c.args.stamp f.stamps.items now = subst (λ xs. StampsRun c.args.first c.args.count c.args.stamp xs now) value c.stamp_run.ensures.run in
    let size : length now ≡ length f.stamps.items = c.stamp_run.ensures.size ∙ ap length value in
    let keep = with_items_is f.stamps now (size ∙ sym f.stamps.ok.0) in
    let g = stamped_cells c.args.first c.args.count c.args.stamp f.stamps.items now f.atoms.items c.self.invariant size s in
    let h = subst (λ xs. StampsCells c.args.first c.args.count c.args.stamp (paired_cells f.stamps.items f.atoms.items) (paired_cells xs f.atoms.items)) (sym keep) g in
    subst (λ o. StampsCells c.args.first c.args.count c.args.stamp o (paired_cells (with_items f.stamps now).items f.atoms.items)) c.self.view_is h
