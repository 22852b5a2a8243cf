use Rattle.std.proofs.Common.{rules, ◌∙◌, ◌≡◌}
use Rattle.window_sites.specs.Inner.{inner_window}
use Rattle.cell_grid.proofs.Corners.{window_of-inner}
use Rattle.cell_grid.proofs.grid.Grid.read_window.Goals as goal

pub returns-in-Some : goal.returns-in-Some
returns-in-Some c =
    let g = c.args.self.now in
    let e : c.refill.new.self ≡ inner_window g.atoms c.in-Some.low g.width = search rules in
    e ∙ window_of-inner g c.args.x c.args.y c.in-Some.low c.in-Some.ensures
