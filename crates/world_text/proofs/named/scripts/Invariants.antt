use Rattle.std.proofs.Common.{◌≡◌, ◌++◌}
use Rattle.world_text.proofs.named.scripts.Given as goal

abbrev pub invariant-loop-of_tile : goal.invariant-loop-of_tile
invariant-loop-of_tile l = l.scripts.items ++ l.of_tile-iterator.rest.items ≡ l.fn.tries.items
