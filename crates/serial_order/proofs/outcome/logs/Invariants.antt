use Rattle.std.proofs.Common.{◌≡◌, ◌++◌, All}
use Rattle.serial_order.specs.Scene.{logs_of}
use Rattle.serial_order.specs.Outcomes.{values_of}
use Rattle.serial_order.proofs.outcome.logs.Given as goal
use Rattle.tile_core.specs.Underway.{IsMade}

abbrev pub invariant-loop-tile : goal.invariant-loop-tile
invariant-loop-tile g l = record {
  done : l.logs.items ++ logs_of (values_of l.tile-iterator.rest.items) ≡ logs_of (values_of l.fn.tiles.items);
  made : All (λ t. IsMade t.core.cache.map t.core) l.tile-iterator.rest.items;
}
