-- The tiles of a plane before their first step.
use Rattle.std.specs.Prelude.{ℕ, ◌≡◌, List, length, slice_get, Some}
use Rattle.window_sites.specs.Window.{WindowValue}
use Rattle.tile_map.specs.Plane.{MapValue, tiles_of}
use Rattle.cell_grid.specs.Grid.{IsGrid}
use Rattle.draw_stream.specs.Plans.{IsPlan, attempts}
use Rattle.event_journal.specs.Serial.{Course}
use Rattle.plane_grid.specs.PlaneGrids.{IsGridOf}
use Rattle.tile_core.specs.Values.{TileWith, atoms_of}
use Rattle.tile_core.specs.Underway.{IsFreshTile}
use Rattle.serial_order.specs.Scene.{InEachCourse}

-- One fresh tile for each tile of the map, in order, all for the course's start grid and with its meaning. The attempts are
-- those of its plan, so at most 1,000,000 together.
pub record AreFresh {B : Type 0} (after : B → WindowValue → ℕ → WindowValue) (c : Course) (tiles : List (TileWith B)) : Type 0 where
  pub grid : IsGrid c.start
  pub fits : IsGridOf c.map c.start
  pub plan_is : IsPlan c.plan
  pub lists : length c.plan.lists ≡ tiles_of c.map
  pub count : length tiles ≡ tiles_of c.map
  pub fresh : (t : ℕ) (x : TileWith B) → slice_get tiles t ≡ Some x → IsFreshTile c.map t (atoms_of c.start) (attempts c.plan t) x.core
  pub meanings : (t : ℕ) (x : TileWith B) → slice_get tiles t ≡ Some x → after x.behave ≡ c.meaning

-- this holds in each course of the map in which the tiles are fresh
abbrev pub WhereFresh : {B : Type 0} → (B → WindowValue → ℕ → WindowValue) → MapValue → List (TileWith B) → (Course → Type 0) → Type 0
WhereFresh after m tiles P = InEachCourse m (λ c. AreFresh after c tiles → P c)
