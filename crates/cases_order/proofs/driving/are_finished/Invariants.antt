use Rattle.std.proofs.Common.{All, take}
use Rattle.serial_order.specs.Boards.{HasStopped}
use Rattle.cases_order.proofs.driving.are_finished.Given as goal

abbrev pub invariant-loop-tile : goal.invariant-loop-tile
invariant-loop-tile g l = All (λ t. HasStopped t.core) (take l.tile-index l.tiles)
