-- Tiles on one plain board: all of a plane that have stopped, and two at the ends of an edge that have no attempt in hand.
use Rattle.std.specs.Prelude.{ℕ, ◌≡◌, ◌<◌, ◌⊎◌, List, length, slice_get, Some}
use Rattle.tile_map.specs.Plane.{IsMap, tiles_of}
use Rattle.tile_map.specs.Edges.{pairs_of, low_end, high_end}
use Rattle.cell_grid.specs.Grid.{IsGrid}
use Rattle.draw_stream.specs.declared.attempt.Attempt.{Attempt}
use Rattle.draw_stream.specs.Plans.{IsPlan, attempts}
use Rattle.event_journal.specs.Serial.{Course}
use Rattle.edge_lock.specs.PlainBoard.{PlainBoardValue, edge_at, lists_of_tile}
use Rattle.plane_grid.specs.PlaneGrids.{IsGridOf}
use Rattle.tile_core.specs.declared.phase.Phase.TheVariants.{Draw, Finished, Worn}
use Rattle.tile_core.specs.Values.{TileValue}
use Rattle.tile_core.specs.Turns.{Common}
use Rattle.tile_core.specs.Underway.{IsUnderway}
use Rattle.tile_core.specs.Boards.{IsBoardOf}
use Rattle.serial_order.specs.Scene.{common_in, IsOver}
use Rattle.serial_order.specs.OneEdge.{EndsHavePlayed}
use Rattle.serial_order.specs.Words.{plain_words, AreEdgeWords, plain_history, histories_on}
use Rattle.serial_order.specs.Outcomes.{scene_of}

-- the tile makes no further step
abbrev pub HasStopped : TileValue → Type 0
HasStopped tile = (tile.phase ≡ Finished) ⊎ (tile.phase ≡ Worn)

-- All tiles of a plane have stopped on one board: what the board's edges have of each tile's end is what its steps in this
-- course have made.
pub record HaveStopped (c : Course) (tiles : List TileValue) (board : PlainBoardValue) : Type 0 where
  pub valid : IsMap c.map
  pub grid : IsGrid c.start
  pub fits : IsGridOf c.map c.start
  pub plan_is : IsPlan c.plan
  pub lists : length c.plan.lists ≡ tiles_of c.map
  pub count : length tiles ≡ tiles_of c.map
  pub edges : IsBoardOf c.map board
  pub numbers : (t : ℕ) (tile : TileValue) → slice_get tiles t ≡ Some tile → tile.number ≡ t
  pub underway : (t : ℕ) (tile : TileValue) → slice_get tiles t ≡ Some tile → IsUnderway (common_in c) (attempts c.plan t) tile (lists_of_tile board tile.number)
  pub stopped : (t : ℕ) (tile : TileValue) → slice_get tiles t ≡ Some tile → HasStopped tile

-- tiles that have stopped on one board are over, and the board's words are those of its edges' histories
abbrev pub StoppedRunsAreOver : Type 0
StoppedRunsAreOver = (c : Course) (tiles : List TileValue) (board : PlainBoardValue) → HaveStopped c tiles board → IsOver (scene_of c tiles (histories_on board)) × AreEdgeWords c.map (plain_words board)

-- the tile is between two attempts, or makes no further step
abbrev pub IsAtRest : TileValue → Type 0
IsAtRest tile = (tile.phase ≡ Draw) ⊎ HasStopped tile

-- what the board's edges have of the tile's end is what its steps have made, and it is at rest
pub record RestsOn (c : Common) (board : PlainBoardValue) (tile : TileValue) : Type 0 where
  pub attempts : List Attempt
  pub underway : IsUnderway c attempts tile (lists_of_tile board tile.number)
  pub rests : IsAtRest tile

-- the two tiles at the ends of an edge of a plane's board are at rest, whatever all other tiles do
pub record EndsRestOn (c : Common) (board : PlainBoardValue) (e : ℕ) (lower higher : TileValue) : Type 0 where
  pub valid : IsMap c.map
  pub known : e < length (pairs_of c.map)
  pub edges : IsBoardOf c.map board
  pub low_tile : lower.number ≡ low_end c.map e
  pub high_tile : higher.number ≡ high_end c.map e
  pub low_rests : RestsOn c board lower
  pub high_rests : RestsOn c board higher

-- two tiles that are at rest at the ends of an edge of a board have played there
abbrev pub RestingEndsHavePlayed : Type 0
RestingEndsHavePlayed = (c : Common) (board : PlainBoardValue) (e : ℕ) (lower higher : TileValue) → EndsRestOn c board e lower higher → EndsHavePlayed c e (plain_history (edge_at board e)) lower higher
