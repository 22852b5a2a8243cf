use Rattle.std.proofs.Common.{◌≡◌, take}
use Rattle.tile_map.proofs.needs.Needs.copy.Given as goal

abbrev pub invariant-loop-edge : goal.invariant-loop-edge
invariant-loop-edge l = l.copy ≡ take l.edge-index l.self
