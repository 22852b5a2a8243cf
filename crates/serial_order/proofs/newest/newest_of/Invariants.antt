use Rattle.std.proofs.Common.{◌≡◌, drop}
use Rattle.tile_map.specs.Plane.{site}
use Rattle.tile_map.specs.Edges.{needs_of}
use Rattle.border_cache.specs.Cells.{cell_value, newest}
use Rattle.serial_order.specs.Scene.{registers_at}
use Rattle.serial_order.specs.Settled.{edge_cells}
use Rattle.serial_order.proofs.newest.newest_of.Given as goal

abbrev pub invariant-loop-i : goal.invariant-loop-i
invariant-loop-i g l = record {
  done : newest (cell_value l.best.0 l.best.1) (edge_cells l.map (registers_at (g.E.EdgeWords.words l.fn.words).histories) (drop l.i (needs_of l.map l.tile (site l.x l.y))) (site l.x l.y))
      ≡ newest (cell_value l.fn.own.0 l.fn.own.1) (edge_cells l.map (registers_at (g.E.EdgeWords.words l.fn.words).histories) (needs_of l.map l.tile (site l.x l.y)) (site l.x l.y));
  same : g.E.EdgeWords.words l.words ≡ g.E.EdgeWords.words l.fn.words;
}
