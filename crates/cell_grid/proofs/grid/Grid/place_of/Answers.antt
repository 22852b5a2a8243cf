use Rattle.std.proofs.Common.{rules}
use Rattle.cell_grid.proofs.grid.Grid.place_of.Goals as goal

pub returns-else-index-clause-place : goal.returns-else-index-clause-place
returns-else-index-clause-place c = search rules

pub returns-else-index-clause-live : goal.returns-else-index-clause-live
returns-else-index-clause-live c = tt
