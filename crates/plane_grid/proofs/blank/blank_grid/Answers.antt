use Rattle.std.proofs.Common.{sym, ◌∙◌, subst, arith}
use Rattle.cell_grid.specs.Grid.{empty_grid}
use Rattle.plane_grid.proofs.BlankGrid.{blank_is}
use Rattle.plane_grid.proofs.Blanks.{shut_all, shut_none}
use Rattle.plane_grid.specs.BlankGrid.{IsShutTo}
use Rattle.plane_grid.specs.PlaneGrids.{IsPlaneGrid}
use Rattle.plane_grid.proofs.blank.blank_grid.Goals as goal

pub loop-tile-init : goal.loop-tile-init
loop-tile-init c =
    let m = c.args.map.now in
    let new = c.in_ok-grid.ensures ∙ (λ i. empty_grid (c.width.ensures.value i) (c.height.ensures.value i)) in
    subst (IsShutTo m 0) (sym new) (shut_none m c.width.ensures.valid)

pub returns-clause-grid : goal.returns-clause-grid
returns-clause-grid c =
    let m = c.args.map.now in
    let g = c.loop-tile.grid in
    let shut : IsShutTo m c.loop-tile.tile g = c.loop-tile.invariant in
    let plane : IsPlaneGrid m g = shut_all m c.tiles-tile-end.ensures.valid c.loop-tile.tile g (omega (arith, c.loop-tile-test.false, c.tiles-tile-end.ensures.count)) shut in
    blank_is m c.tiles-tile-end.ensures.valid g plane.0 plane.1 shut.empty

pub returns-clause-fits : goal.returns-clause-fits
returns-clause-fits c = shut_all c.args.map.now c.tiles-tile-end.ensures.valid c.loop-tile.tile c.loop-tile.grid (omega (arith, c.loop-tile-test.false, c.tiles-tile-end.ensures.count)) c.loop-tile.invariant
