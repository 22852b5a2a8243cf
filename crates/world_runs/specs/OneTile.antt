-- The events of a plane of one tile.
use Rattle.std.specs.Prelude.{ℕ, ◌≡◌, ◌+◌, ◌*◌, ◌<◌, All, List, length, map}
use Rattle.std.specs.List.{enumerate_from}
use Rattle.cell_grid.specs.declared.record.Record.{Record}
use Rattle.draw_stream.specs.declared.attempt.Attempt.{Attempt}
use Rattle.draw_stream.specs.Plans.{PlanValue, attempts}
use Rattle.tile_map.specs.Plane.{MapValue, IsMap, tiles_of, site_in}

-- attempt i as an event: its stamp is i + 1
abbrev pub event_of : MapValue → ℕ × Attempt → Record
event_of m p = record { stamp = p.0 + 1; tile = 0; attempt = p.0; x = (site_in m 0 p.1.centre).x; y = (site_in m 0 p.1.centre).y; seed = p.1.seed }

-- the attempts from number i on, each an event
abbrev pub events_from : MapValue → ℕ → List Attempt → List Record
events_from m i list = map (event_of m) (enumerate_from i list)

-- the attempts of the one tile, each an event, in their order
abbrev pub events_of : MapValue → PlanValue → List Record
events_of m plan = events_from m 0 (attempts plan 0)

-- a plane of one tile, and the attempts of the tile at positions of its rectangle
pub record IsAlone (m : MapValue) (plan : PlanValue) : Type 0 where
  pub map : IsMap m
  pub one : tiles_of m ≡ 1
  pub lists : length plan.lists ≡ 1
  pub centres : All (λ (a : Attempt). a.centre < m.w * m.h) (attempts plan 0)
