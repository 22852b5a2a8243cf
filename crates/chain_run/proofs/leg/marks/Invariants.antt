use Rattle.std.proofs.Common.{◌≡◌, take}
use Rattle.chain_run.proofs.leg.marks.Given as goal

abbrev pub invariant-loop-tile : goal.invariant-loop-tile
invariant-loop-tile l = l.off.items ≡ take l.tile l.map.off
