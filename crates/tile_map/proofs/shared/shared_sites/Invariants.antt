use Rattle.std.proofs.Common.{◌≡◌, map, take}
use Rattle.tile_map.specs.Tables.{shared_both}
use Rattle.tile_map.proofs.shared.shared_sites.Given as goal

abbrev pub invariant-loop-pair : goal.invariant-loop-pair
invariant-loop-pair l = l.shared.items ≡ map (shared_both l.plane) (take l.pair-index l.ends)
