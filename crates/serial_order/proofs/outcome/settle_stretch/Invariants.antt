use Rattle.std.proofs.Common.{◌≡◌, ◌≤◌, ◌+◌, ◌*◌}
use Rattle.cell_grid.specs.Grid.{ArePlanesAlike}
use Rattle.serial_order.specs.Outcomes.{values_of}
use Rattle.serial_order.specs.Scene.{registers_at}
use Rattle.serial_order.specs.Settled.{IsSettledTo}
use Rattle.serial_order.proofs.outcome.settle_stretch.Given as goal

abbrev pub invariant-loop-x : goal.invariant-loop-x
invariant-loop-x g l = record {
  from : l.left ≤ l.x;
  done : IsSettledTo l.map (values_of l.tiles) (registers_at (g.E.EdgeWords.words l.fn.words).histories) (l.y * l.grid.width + l.x) l.grid;
  plane : ArePlanesAlike l.fn.grid l.grid;
  same : g.E.EdgeWords.words l.words ≡ g.E.EdgeWords.words l.fn.words;
}
