-- Tiles that act in turn on the board of one thread.
use Rattle.std.specs.Prelude.{ℕ, ◌≡◌, List, length, slice_get, Some}
use Rattle.window_sites.specs.Window.{WindowValue}
use Rattle.tile_map.specs.Plane.{MapValue, IsMap, tiles_of}
use Rattle.cell_grid.specs.Grid.{IsGrid}
use Rattle.draw_stream.specs.Plans.{IsPlan, attempts}
use Rattle.edge_lock.specs.PlainBoard.{PlainBoardValue, lists_of_tile}
use Rattle.plane_grid.specs.PlaneGrids.{IsGridOf}
use Rattle.tile_core.specs.Values.{TileWith, TileValue, atoms_of}
use Rattle.tile_core.specs.Underway.{IsUnderway, IsFreshTile}
use Rattle.tile_core.specs.Boards.{IsBoardOf}
use Rattle.event_journal.specs.Serial.{Course}
use Rattle.serial_order.specs.Scene.{common_in, on_map}

-- tiles that were only made, for this course
pub record AreMade {B : Type 0} (after : B → WindowValue → ℕ → WindowValue) (c : Course) (tiles : List (TileWith B)) : Type 0 where
  pub fresh : (t : ℕ) (x : TileWith B) → slice_get tiles t ≡ Some x → IsFreshTile c.map t (atoms_of c.start) (attempts c.plan t) x.core
  pub acts : (t : ℕ) (x : TileWith B) → slice_get tiles t ≡ Some x → after x.behave ≡ c.meaning

-- tile t is underway on the board
pub record IsTileOn (c : Course) (board : PlainBoardValue) (t : ℕ) (tile : TileValue) : Type 0 where
  pub number : tile.number ≡ t
  pub underway : IsUnderway (common_in c) (attempts c.plan t) tile (lists_of_tile board tile.number)

-- all tiles of the plane are underway on one board of its edges, in one course
pub record IsDriven {B : Type 0} (after : B → WindowValue → ℕ → WindowValue) (m : MapValue) (tiles : List (TileWith B)) (board : PlainBoardValue) : Type 0 where
  pub course : Course
  pub valid : IsMap m
  pub grid : IsGrid course.start
  pub fits : IsGridOf m course.start
  pub plan_is : IsPlan course.plan
  pub lists : length course.plan.lists ≡ tiles_of m
  pub count : length tiles ≡ tiles_of m
  pub edges : IsBoardOf m board
  pub each : (t : ℕ) (x : TileWith B) → slice_get tiles t ≡ Some x → IsTileOn (on_map m course) board t x.core
  pub acts : (t : ℕ) (x : TileWith B) → slice_get tiles t ≡ Some x → after x.behave ≡ course.meaning
