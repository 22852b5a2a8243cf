-- A tile that has the plane for itself, on a board of no edges.
use Rattle.std.specs.Prelude.{◌≡◌, []}
use Rattle.tile_map.specs.Plane.{MapValue, whole_plane}
use Rattle.edge_lock.specs.PlainBoard.{PlainBoardValue, acting_end, lists_on}
use Rattle.cell_grid.specs.Tried.{after_turn}
use Rattle.border_cache.specs.Copies.{IsEndOf}
use Rattle.tile_core.specs.Values.{TileValue}
use Rattle.tile_core.specs.Underway.{IsSome}

-- the tile was made with the map, the board is its end, and what the board's lists have is what it did
pub record IsAlone (m : MapValue) (tile : TileValue) (board : PlainBoardValue) : Type 0 where
  pub map : tile.cache.map ≡ m
  pub end : IsEndOf m tile.number (acting_end board)
  pub underway : IsSome m after_turn tile (lists_on board)

-- a plane of one tile of 8 by 8, and its board, on which nothing has happened
pub record IsEmptyBoard (m : MapValue) (board : PlainBoardValue) : Type 0 where
  pub map : m ≡ whole_plane 1 1 8 8
  pub acting : board.acting ≡ 0
  pub edges : board.edges ≡ []
