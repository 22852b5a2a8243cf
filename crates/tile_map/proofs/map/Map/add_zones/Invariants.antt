use Rattle.std.proofs.Common.{◌≡◌}
use Rattle.tile_map.proofs.map.Map.add_zones.Given as goal

abbrev pub invariant-loop : goal.invariant-loop
invariant-loop l = l.self ≡ l.fn.self
