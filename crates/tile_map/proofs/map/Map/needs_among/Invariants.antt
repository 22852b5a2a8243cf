use Rattle.std.proofs.Common.{◌≡◌, take}
use Rattle.std.specs.Prelude.{filter}
use Rattle.tile_map.specs.Plane.{site}
use Rattle.tile_map.specs.Edges.{reaches, other_end}
use Rattle.tile_map.proofs.map.Map.needs_among.Given as goal

abbrev pub invariant-loop-edge : goal.invariant-loop-edge
invariant-loop-edge l = l.needs ≡ filter (λ e. reaches l.self (site l.x l.y) (other_end l.self l.tile e)) (take l.edge-index l.edges)
