-- All tiles of a plane and their board once the stepped run is over.
use Rattle.std.specs.Prelude.{ℕ, ◌≡◌, ◌<◌, List, length, map, All, slice_get, Option, Some, None}
use Rattle.std.specs.Iterator.{Drains}
use Rattle.std.specs.List.{range_with_len}
use Rattle.window_sites.specs.Window.{WindowValue}
use Rattle.tile_map.specs.Plane.{MapValue, tiles_of}
use Rattle.cell_grid.specs.Grid.{GridValue}
use Rattle.cell_grid.specs.Records.{replay}
use Rattle.draw_stream.specs.Plans.{PlanValue, attempts}
use Rattle.edge_lock.specs.History.{open_hold}
use Rattle.edge_lock.specs.PlainBoard.{PlainBoardValue, edge_at, lists_of_tile}
use Rattle.tile_core.specs.declared.phase.Phase.TheVariants.{Finished}
use Rattle.tile_core.specs.Values.{TileWith, TileValue}
use Rattle.tile_core.specs.Turns.{HasPlayed}
use Rattle.event_journal.specs.Logs.{LogValue, log_of, records_in, of_tile, abandoned_by}
use Rattle.event_journal.specs.Serial.{Course}
use Rattle.serial_order.specs.Scene.{InEachCourse, common_in, IsOver, logs_of, registers_at}
use Rattle.serial_order.specs.Settled.{IsSettled}
use Rattle.serial_order.specs.Words.{plain_words, AreEdgeWords, histories_on}
use Rattle.serial_order.specs.Outcomes.{StandsInOneOrder, scene_of, values_of}
use Rattle.serial_order.specs.declared.outcome.Outcome.{Outcome}
use Rattle.stepped_world.specs.Machine.{Done, Machine, stepped}
use Rattle.stepped_world.specs.Matching.{Matches}
use Rattle.stepped_world.specs.Running.{IsStart}
use Rattle.tile_core.specs.Underway.{made_by, IsMade}

-- tile t has played all its attempts of the plan, and keeps its number and its map
pub record HasFinished (c : Course) (board : PlainBoardValue) (t : ℕ) (tile : TileValue) : Type 0 where
  pub number : tile.number ≡ t
  pub map : tile.cache.map ≡ c.map
  pub phase : tile.phase ≡ Finished
  pub played : HasPlayed (common_in c) t (attempts c.plan t) (made_by tile (lists_of_tile board t))

-- the run is over: each tile has played all its attempts and keeps its meaning, nobody has an edge, and everything holds that
-- the settling of the grid requires
pub record HasRun {B : Type 0} (after : B → WindowValue → ℕ → WindowValue) (c : Course) (tiles : List (TileWith B)) (board : PlainBoardValue) : Type 0 where
  pub count : length tiles ≡ tiles_of c.map
  pub finished : (t : ℕ) (x : TileWith B) → slice_get tiles t ≡ Some x → HasFinished c board t x.core
  pub meanings : (t : ℕ) (x : TileWith B) → slice_get tiles t ≡ Some x → after x.behave ≡ c.meaning
  pub shut : (e : ℕ) → open_hold (edge_at board e).holds ≡ None
  pub made : All (λ (x : TileWith B). IsMade c.map x.core) tiles
  pub words : AreEdgeWords c.map (plain_words board)
  pub over : IsOver (scene_of c (values_of tiles) (histories_on board))

-- the logs of all tiles, as the machine has them
abbrev pub logs_in : MapValue → Machine → List LogValue
logs_in m s = map (λ t. log_of t (of_tile t s.records) (abandoned_by t s.abandoned)) (range_with_len 0 (tiles_of m))

-- Tiles, edges and entries are those of the stepped machine, and a grid of the newest cells is its grid. That grid is also what
-- its events make of the start in the order of the journal.
pub record IsAsStepped {B : Type 0} (c : Course) (tiles : List (TileWith B)) (board : PlainBoardValue) (order : List ℕ) : Type 0 where
  pub matches : Matches c.map tiles board (stepped c.map c.meaning c.start c.plan order)
  pub logs : logs_of (values_of tiles) ≡ logs_in c.map (stepped c.map c.meaning c.start c.plan order)
  pub newest : (h : GridValue) → IsSettled c.map (values_of tiles) (registers_at (histories_on board)) h → h ≡ (stepped c.map c.meaning c.start c.plan order).grid
  pub replayed : replay c.meaning c.start (records_in (logs_in c.map (stepped c.map c.meaning c.start c.plan order))) ≡ (stepped c.map c.meaning c.start c.plan order).grid

-- the result of a run: the grid and the logs of the stepped machine. All its events stand in one
-- serial order, that of the journal.
pub record IsOutcome (c : Course) (order : List ℕ) (o : Outcome) : Type 0 where
  pub grid : o.grid ≡ (stepped c.map c.meaning c.start c.plan order).grid
  pub journal : o.journal ≡ logs_in c.map (stepped c.map c.meaning c.start c.plan order)
  pub in_order : StandsInOneOrder c o

-- the machine finishes each of its tiles, whatever steps come first
abbrev pub ComesToItsEnd : Type 0
ComesToItsEnd = (m : MapValue) (meaning : WindowValue → ℕ → WindowValue) (start : GridValue) (plan : PlanValue) (order : List ℕ) (t : ℕ) → t < tiles_of m
    → ((stepped m meaning start plan order).tile t).doing ≡ Done

-- this holds of the list of numbers that an iterator gives
abbrev pub DrainsTo : {S : Type 0} → (S → Option ℕ → S → Type 0) → S → (List ℕ → Type 0) → Type 0
DrainsTo steps s P = (xs : List ℕ) × Drains steps s xs × P xs

-- this holds in each course of the map in which these are fresh tiles and a fresh board
abbrev pub FromStart : {B : Type 0} → (B → WindowValue → ℕ → WindowValue) → MapValue → List (TileWith B) → PlainBoardValue → (Course → Type 0) → Type 0
FromStart after m tiles board P = InEachCourse m (λ c. IsStart after c tiles board → P c)
