use Rattle.std.proofs.Common.{◌≡◌, ◌++◌, drop}
use Rattle.world_text.proofs.step.push_tiles.Given as goal

abbrev pub invariant-loop-t : goal.invariant-loop-t
invariant-loop-t l = l.order.items ++ drop l.t-index l.tiles ≡ l.initial.order.items ++ l.tiles
