use Rattle.std.proofs.Common.{◌≡◌, ◌<◌, ℕ, false}
use Rattle.tile_map.specs.Plane.{site}
use Rattle.tile_map.specs.Edges.{is_held_at, window_site}
use Rattle.tile_map.proofs.plane.Plane.holds_one.Given as goal

abbrev pub invariant-loop-n : goal.invariant-loop-n
invariant-loop-n l = (k : ℕ) → k < l.n → is_held_at l.self l.tile (window_site l.self (site l.x l.y) k) ≡ false
