-- All tiles of a plane on one board: at the start of the stepped run, and underway.
use Rattle.std.specs.Prelude.{ℕ, ◌≡◌, ◌<◌, ◌≤◌, ◌+◌, ◌*◌, ◌⊎◌, List, All, AllPairs, length, map, slice_get, Bool, true, false, Option, Some, None}
use Rattle.std.specs.List.{range_with_len}
use Rattle.tile_core.specs.Steps.{steps_in}
use Rattle.window_sites.specs.Window.{WindowValue}
use Rattle.tile_map.specs.Plane.{Site, MapValue, tiles_of, in_window}
use Rattle.edge_lock.specs.Edges.{sizes_of}
use Rattle.tile_map.specs.Edges.{needs_of}
use Rattle.cell_grid.specs.declared.record.Record.{Record}
use Rattle.cell_grid.specs.Records.{replay}
use Rattle.draw_stream.specs.Plans.{attempts}
use Rattle.event_journal.specs.Serial.{Course}
use Rattle.edge_lock.specs.PlainBoard.{PlainBoardValue, lists_of_tile, untouched_edge, sizes_of_board}
use Rattle.border_cache.specs.Copies.{IsCentre}
use Rattle.border_cache.specs.Windows.{has}
use Rattle.tile_core.specs.declared.phase.Phase.{Phase}
use Rattle.tile_core.specs.declared.phase.Phase.TheVariants.{Draw, Lock, Refresh, Behave, Write, Give, Back, Finished, Worn}
use Rattle.tile_core.specs.Values.{TileWith, TileValue, event_site}
use Rattle.tile_core.specs.Underway.{IsUnderway}
use Rattle.tile_core.specs.Boards.{IsBoardOf}
use Rattle.serial_order.specs.Scene.{InEachCourse, common_in}
use Rattle.serial_order.specs.Fresh.{AreFresh}
use Rattle.stepped_world.specs.Machine.{Machine, step, steps, finish_tile, finish}
use Rattle.stepped_world.specs.Matching.{Matches}

-- fresh tiles of the plane and a fresh board of it
pub record IsStart {B : Type 0} (after : B → WindowValue → ℕ → WindowValue) (c : Course) (tiles : List (TileWith B)) (board : PlainBoardValue) : Type 0 where
  pub tiles_are : AreFresh after c tiles
  pub edges : board.edges ≡ map untouched_edge (sizes_of c.map)

-- tile t is underway on the board
pub record IsTileOf (c : Course) (board : PlainBoardValue) (t : ℕ) (tile : TileValue) : Type 0 where
  pub number : tile.number ≡ t
  pub underway : IsUnderway (common_in c) (attempts c.plan t) tile (lists_of_tile board t)

-- all tiles are underway on one board of the plane
pub record AreUnderway {B : Type 0} (after : B → WindowValue → ℕ → WindowValue) (c : Course) (tiles : List (TileWith B)) (board : PlainBoardValue) : Type 0 where
  pub count : length tiles ≡ tiles_of c.map
  pub each : (t : ℕ) (x : TileWith B) → slice_get tiles t ≡ Some x → IsTileOf c board t x.core
  pub meanings : (t : ℕ) (x : TileWith B) → slice_get tiles t ≡ Some x → after x.behave ≡ c.meaning
  pub board_is : IsBoardOf c.map board

-- whether a step of the tile does nothing any more
abbrev pub is_still : Phase → Bool
is_still Draw = false
is_still Lock = false
is_still Refresh = false
is_still Behave = false
is_still Write = false
is_still Give = false
is_still Back = false
is_still Finished = true
is_still Worn = true

abbrev pub stands_still : {B : Type 0} → Option (TileWith B) → Bool
stands_still None = true
stands_still (Some x) = is_still x.core.phase

-- how many steps a tile makes at most
abbrev pub steps_ahead : {B : Type 0} → Option (TileWith B) → ℕ
steps_ahead None = 0
steps_ahead (Some x) = 50 * length x.core.left + steps_in x.core x.core.phase

-- tile t has fewer steps ahead than before
abbrev pub HasFewerAhead : {B : Type 0} → List (TileWith B) → List (TileWith B) → ℕ → Type 0
HasFewerAhead old new t = steps_ahead (slice_get new t) < steps_ahead (slice_get old t)

-- one tile is worn out
abbrev pub AnyIsWorn : {B : Type 0} → List (TileWith B) → Type 0
AnyIsWorn {B} tiles = (t : ℕ) × (x : TileWith B) × (slice_get tiles t ≡ Some x) × (x.core.phase ≡ Worn)

-- if two events have a live site in common, the first has the smaller stamp
abbrev pub StampsRise : MapValue → Record → Record → Type 0
StampsRise m r q = (s : Site) → in_window m (event_site r) s ≡ true → in_window m (event_site q) s ≡ true → r.stamp < q.stamp

-- the clocks of an event's tile and of the edges that it needs are not below its stamp
pub record HasClocks (m : MapValue) (s : Machine) (r : Record) : Type 0 where
  pub tile : r.stamp ≤ (s.tile r.tile).clock
  pub edges : (e : ℕ) → has e (needs_of m r.tile (event_site r)) ≡ true → r.stamp ≤ (s.edge e).clock

-- What holds of the machine by itself: each event is at a live site of its tile, the clocks are not behind, at each site stamps
-- rise with time, and the grid is what the events made of the start, in the order of time.
pub record IsSound (c : Course) (s : Machine) : Type 0 where
  pub owned : All (λ (r : Record). IsCentre c.map r.tile (event_site r)) s.records
  pub clocks : All (HasClocks c.map s) s.records
  pub rises : AllPairs (StampsRise c.map) s.records
  pub grid : s.grid ≡ replay c.meaning c.start s.records

pub record IsLike {B : Type 0} (c : Course) (tiles : List (TileWith B)) (board : PlainBoardValue) (s : Machine) : Type 0 where
  pub matches : Matches c.map tiles board s
  pub sound : IsSound c s

-- the tiles and the edges are as the machine has them, or some tile is worn out, which the machine does not know
abbrev pub AreLike : {B : Type 0} → Course → List (TileWith B) → PlainBoardValue → Machine → Type 0
AreLike c tiles board s = IsLike c tiles board s ⊎ AnyIsWorn tiles

-- all tiles of a plane, and the board on which their ends act
pub record TilesOnBoard (B : Type 0) : Type 0 where
  pub tiles : List (TileWith B)
  pub board : PlainBoardValue

abbrev pub on_board : {B : Type 0} → List (TileWith B) → PlainBoardValue → TilesOnBoard B
on_board tiles board = record { tiles = tiles; board = board }

-- something that the machine does, by the plane and by what an event makes of a window
abbrev pub Act : Type 0
Act = MapValue → (WindowValue → ℕ → WindowValue) → Machine → Machine

-- a step of this tile
abbrev pub step_of : ℕ → Act
step_of t m meaning s = step m meaning t s

-- a step of each of these tiles, one after another
abbrev pub steps_by : List ℕ → Act
steps_by ts m meaning s = steps m meaning ts s

-- the steps of this tile until it is done
abbrev pub rest_of : ℕ → Act
rest_of t m meaning s = finish_tile m meaning t s

-- the steps of each of these tiles until it is done, one tile after another
abbrev pub rest_by : List ℕ → Act
rest_by ts m meaning s = finish m meaning ts s

-- the same for all tiles of the plane
abbrev pub rest_of_all : Act
rest_of_all m meaning s = finish m meaning (range_with_len 0 (tiles_of m)) s

-- The tiles made some steps, as the machine does in this act: in whatever course of the map they were underway, they still are; if they
-- were as a machine has them, they are now as that machine has them after the act, or some tile is worn out. A tile that stood
-- still still does, and the board keeps its sizes.
pub record Follows {B : Type 0} (after : B → WindowValue → ℕ → WindowValue) (m : MapValue) (old new : TilesOnBoard B) (act : Act) : Type 0 where
  pub underway : InEachCourse m (λ c. AreUnderway after c old.tiles old.board → AreUnderway after c new.tiles new.board)
  pub like : InEachCourse m (λ c. (s : Machine) → AreUnderway after c old.tiles old.board → AreLike c old.tiles old.board s → AreLike c new.tiles new.board (act c.map c.meaning s))
  pub still : (t : ℕ) → stands_still (slice_get old.tiles t) ≡ true → stands_still (slice_get new.tiles t) ≡ true
  pub sizes : sizes_of_board new.board ≡ sizes_of_board old.board
