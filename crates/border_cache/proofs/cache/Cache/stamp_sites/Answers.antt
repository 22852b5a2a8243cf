use Rattle.std.proofs.Common.{ℕ, arith, ap, ◌∙◌, subst}
use Rattle.tile_map.specs.Edges.{window_site}
use Rattle.border_cache.specs.Borders.{site_of}
use Rattle.border_cache.specs.Cells.{CellValue, cell_value}
use Rattle.border_cache.specs.Copies.{PutsFor, window_cells}
use Rattle.border_cache.proofs.Open.{centre_kept}
use Rattle.border_cache.proofs.Stored.{StoresFirst, stores_none, stores_more, stores_all, waits_still}
use Rattle.border_cache.proofs.cache.Cache.stamp_sites.Goals as goal

pub loop-n-preserved : goal.loop-n-preserved
loop-n-preserved c =
    let n = c.loop-n.n in
    let s = site_of c.args.centre in
    let lt = c.loop-n-test.true in
    let old = c.args.self.now in
    let cells : ℕ → CellValue = λ k. cell_value c.args.stamp (window_cells old s k).atom in
    let mid = c.loop-n.self in
    let new = c.put_around.new.self in
    let still = waits_still s n cells old mid (omega (arith, lt)) c.requires.centre.holds c.loop-n.invariant in
    let same = c.new.ensures ∙ ap (cell_value c.args.stamp) (c.atom.ensures ∙ ap (λ cell. cell.atom) (c.cell_around-cell.ensures ∙ still)) in
    stores_more s n cells old mid new (omega (arith, lt)) c.requires.centre.holds c.loop-n.invariant (subst (λ x. PutsFor (window_site mid.map s n) x mid new) same c.put_around.ensures)

pub returns : goal.returns
returns c =
    let s = site_of c.args.centre in
    let old = c.args.self.now in
    let cells : ℕ → CellValue = λ n. cell_value c.args.stamp (window_cells old s n).atom in
    stores_all s cells old c.loop-n.self (subst (λ k. StoresFirst s k cells old c.loop-n.self) (omega (arith, c.loop-n-test.false, c.loop-n.auto.n-end)) c.loop-n.invariant)

pub loop-n-init : goal.loop-n-init
loop-n-init c = stores_none (site_of c.args.centre) (λ n. cell_value c.args.stamp (window_cells c.args.self.now (site_of c.args.centre) n).atom) c.args.self.now

pub cell_around-cell-requires-clause-centre : goal.cell_around-cell-requires-clause-centre
cell_around-cell-requires-clause-centre c = centre_kept c.args.map.now c.args.self.now c.loop-n.self c.args.centre c.loop-n.invariant.map c.loop-n.invariant.tile c.requires.centre

pub put_around-requires-clause-centre : goal.put_around-requires-clause-centre
put_around-requires-clause-centre c = centre_kept c.args.map.now c.args.self.now c.loop-n.self c.args.centre c.loop-n.invariant.map c.loop-n.invariant.tile c.requires.centre
