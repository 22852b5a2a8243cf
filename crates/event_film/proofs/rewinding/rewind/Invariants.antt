use Rattle.std.proofs.Common.{◌+◌, ◌-◌, length}
use Rattle.cell_grid.specs.Grid.{ArePlanesAlike}
use Rattle.event_film.specs.Rewinding.{IsAt, reel}
use Rattle.event_film.proofs.rewinding.rewind.Given as goal

abbrev pub invariant-loop-taken : goal.invariant-loop-taken
invariant-loop-taken g l = record {
  at : IsAt (g.B.Behave.after l.fn.behave) l.fn.start l.records (length l.records + l.count - l._taken) (reel l.film l.grid);
  plane : ArePlanesAlike l.fn.start l.grid;
}
