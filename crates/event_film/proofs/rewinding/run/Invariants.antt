use Rattle.std.proofs.Common.{◌≡◌}
use Rattle.cell_grid.specs.Grid.{ArePlanesAlike}
use Rattle.event_film.specs.Rewinding.{IsAt, reel}
use Rattle.event_film.proofs.rewinding.run.Given as goal

abbrev pub invariant-loop-entry : goal.invariant-loop-entry
invariant-loop-entry g l = record {
  at : IsAt (g.B.Behave.after l.fn.behave) l.fn.grid l.records l.entry-index (reel l.film l.grid);
  plane : ArePlanesAlike l.fn.grid l.grid;
  meaning : g.B.Behave.after l.behave ≡ g.B.Behave.after l.fn.behave;
}
