-- Two tiles beside each other on one board.
use Rattle.std.specs.Prelude.{◌≡◌, ◌≢◌, ℕ, List}
use Rattle.bit_field.specs.Atom.{AtomValue}
use Rattle.cell_grid.specs.Tried.{after_turn}
use Rattle.draw_stream.specs.declared.attempt.Attempt.{Attempt}
use Rattle.tile_map.specs.Plane.{Site, MapValue, whole_plane}
use Rattle.edge_lock.specs.PlainBoard.{PlainBoardValue}
use Rattle.tile_core.specs.Values.{TileValue}
use Rattle.tile_core.specs.Underway.{IsFreshTile}
use Rattle.tile_core.specs.Boards.{IsBoardOf, IsOnBoard}

-- tile t has only been made, with some atoms and some attempts
abbrev pub IsJustMade : MapValue → ℕ → TileValue → Type 0
IsJustMade m t tile = (at_first : Site → AtomValue) × (attempts : List Attempt) × IsFreshTile m t at_first attempts tile

-- each tile with another number that is underway on the old board is underway on the new one
abbrev pub OthersStayOn : MapValue → ℕ → PlainBoardValue → PlainBoardValue → Type 0
OthersStayOn m t old new = (other : TileValue) → other.number ≢ t → IsOnBoard m after_turn other old → IsOnBoard m after_turn other new

-- tiles 0 and 1 of a plane of two tiles of 16 by 16, both underway on the board of the plane's edges
pub record AreTwo (m : MapValue) (left right : TileValue) (board : PlainBoardValue) : Type 0 where
  pub map : m ≡ whole_plane 2 1 16 16
  pub edges : IsBoardOf m board
  pub lower : IsOnBoard m after_turn left board
  pub higher : IsOnBoard m after_turn right board
  pub lower_number : left.number ≡ 0
  pub higher_number : right.number ≡ 1
