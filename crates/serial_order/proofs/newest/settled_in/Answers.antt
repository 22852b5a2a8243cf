use Rattle.std.proofs.Common.{◌∙◌, ap, sym}
use Rattle.tile_map.specs.Plane.{site}
use Rattle.border_cache.specs.Cells.{CellValue, newest}
use Rattle.border_cache.specs.Copies.{held_cell}
use Rattle.serial_order.specs.Scene.{registers_at}
use Rattle.serial_order.specs.Words.{cells_on}
use Rattle.serial_order.proofs.NeededCells.{no_cells}
use Rattle.serial_order.proofs.newest.settled_in.Goals as goal

pub returns-then-has-clause-atom : goal.returns-then-has-clause-atom
returns-then-has-clause-atom g c =
    let s = site c.args.x c.args.y in
    let within = sym c.has.ensures ∙ c.if-has.true in
    let registers = registers_at (g.E.EdgeWords.words c.args.words.now).histories in
    let none = no_cells c.args.map.now registers c.args.unshared.now.tile s c.laws.ensures.plane (λ u held. c.requires.unshared.alone u c.args.x c.args.y within held) in
    ap (λ (cell : CellValue). cell.atom) c.cell-own.ensures ∙ ap (λ cells. (newest (held_cell c.args.cache.now s) cells).atom) (sym none)

pub returns-else-has-clause-atom : goal.returns-else-has-clause-atom
returns-else-has-clause-atom g c =
    let cells = cells_on c.args.map.now (g.E.EdgeWords.words c.args.words.now).histories c.args.unshared.now.tile (site c.args.x c.args.y) in
    ap (λ (cell : CellValue). cell.atom) (c.newest_of.ensures.cell ∙ ap (λ own. newest own cells) c.cell-own.ensures)
