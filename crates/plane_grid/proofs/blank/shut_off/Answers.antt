use Rattle.std.proofs.Common.{◌+◌, sym, subst, ◌∙◌, arith}
use Rattle.cell_grid.specs.Shut.{rectangle}
use Rattle.plane_grid.specs.BlankGrid.{IsShutTo}
use Rattle.plane_grid.proofs.Blanks.{some_sites, shut_on, empty_in, shut_area, area_fits}
use Rattle.plane_grid.proofs.blank.shut_off.Goals as goal

pub returns-then-is_on : goal.returns-then-is_on
returns-then-is_on c = shut_on c.args.map.now c.args.tile c.args.grid.now c.requires.grid (sym c.is_on.ensures ∙ c.if-is_on.true)

pub site_of-left-requires-clause-centre : goal.site_of-left-requires-clause-centre
site_of-left-requires-clause-centre c = let some = some_sites c.args.map.now c.laws.ensures.valid in omega (arith, some)

pub shut-requires-clause-empty : goal.shut-requires-clause-empty
shut-requires-clause-empty c =
    empty_in c.args.map.now c.args.tile c.args.grid.now c.requires.grid (rectangle c.site_of-left.result.0 c.site_of-left.result.1 c.tile_width.result c.tile_height.result)

pub shut-requires-clause-columns : goal.shut-requires-clause-columns
shut-requires-clause-columns c =
    (area_fits c.args.map.now c.args.tile c.args.grid.now c.requires.grid c.laws.ensures.valid c.requires.tile c.site_of-left.result.0 c.site_of-left.result.1 c.tile_width.result c.tile_height.result c.site_of-left.ensures.value c.tile_width.ensures.value c.tile_height.ensures.value).0

pub shut-requires-clause-rows : goal.shut-requires-clause-rows
shut-requires-clause-rows c =
    (area_fits c.args.map.now c.args.tile c.args.grid.now c.requires.grid c.laws.ensures.valid c.requires.tile c.site_of-left.result.0 c.site_of-left.result.1 c.tile_width.result c.tile_height.result c.site_of-left.ensures.value c.tile_width.ensures.value c.tile_height.ensures.value).1

pub returns : goal.returns
returns c = subst (IsShutTo c.args.map.now (c.args.tile + 1)) (sym c.shut.ensures)
    (shut_area c.args.map.now c.args.tile c.args.grid.now c.requires.grid c.laws.ensures.valid c.requires.tile c.site_of-left.result.0 c.site_of-left.result.1 c.tile_width.result c.tile_height.result
    c.site_of-left.ensures.value c.tile_width.ensures.value c.tile_height.ensures.value (sym c.is_on.ensures ∙ c.if-is_on.false))
