use Rattle.cell_grid.proofs.Windows.{AreFound}
use Rattle.cell_grid.proofs.grid.Grid.places.Given as goal

abbrev pub invariant-loop-n : goal.invariant-loop-n
invariant-loop-n l = AreFound l.self l.x l.y l.n l.places
