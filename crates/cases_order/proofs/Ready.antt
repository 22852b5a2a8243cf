-- Tiles that were only made are fresh.
use Rattle.std.proofs.Common.{ℕ, ◌≡◌, List, length}
use Rattle.window_sites.specs.Window.{WindowValue}
use Rattle.tile_map.specs.Plane.{MapValue, tiles_of}
use Rattle.draw_stream.specs.Plans.{IsPlan}
use Rattle.tile_core.specs.Values.{TileWith}
use Rattle.serial_order.specs.Fresh.{AreFresh}
use Rattle.plane_grid.specs.PlaneGrids.{IsPlaneGrid}
use Rattle.cases_order.specs.Driven.{AreMade}
use Rattle.serial_order.specs.Scene.{on_map}
use Rattle.event_journal.specs.Serial.{Course}

-- tiles that were made for a grid of the plane and a plan of as many lists are fresh
pub fresh_made : {B : Type 0} (after : B → WindowValue → ℕ → WindowValue) (m : MapValue) (g : Course) (tiles : List (TileWith B)) → IsPlaneGrid m g.start → IsPlan g.plan
    → length g.plan.lists ≡ tiles_of m → length tiles ≡ tiles_of m → AreMade after (on_map m g) tiles → AreFresh after (on_map m g) tiles
fresh_made after m g tiles grid plan_is lists count made = record {
  grid = grid.0;
  fits = grid.1;
  plan_is = plan_is;
  lists = lists;
  count = count;
  fresh = made.fresh;
  meanings = made.acts;
}
