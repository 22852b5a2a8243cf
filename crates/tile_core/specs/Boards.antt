-- The tiles of a plane and the board of one thread, on which their ends act in turn.
use Rattle.std.specs.Prelude.{ℕ, ◌≡◌, ◌≢◌, ◌<◌, List, length, map}
use Rattle.edge_lock.specs.Edges.{registers_of, sizes_of}
use Rattle.bit_field.specs.Atom.{AtomValue}
use Rattle.window_sites.specs.Window.{WindowValue}
use Rattle.tile_map.specs.Plane.{Site, MapValue, tiles_of}
use Rattle.tile_map.specs.Edges.{pairs_of, low_end, high_end}
use Rattle.tile_map.specs.Laws.{IsPlane}
use Rattle.draw_stream.specs.declared.attempt.Attempt.{Attempt}
use Rattle.edge_lock.specs.PlainEdges.{PlainEdgeValue}
use Rattle.edge_lock.specs.PlainBoard.{PlainBoardValue, edge_at, acting_end, lists_of_tile, untouched_edge, Moved, IsKeptEdge}
use Rattle.border_cache.specs.Windows.{sites_on}
use Rattle.border_cache.specs.Copies.{IsEndOf}
use Rattle.tile_core.specs.Values.{TileValue}
use Rattle.tile_core.specs.Turns.{common}
use Rattle.tile_core.specs.Underway.{IsUnderway, IsSome, IsFreshTile}

-- edge e of the plane, which keeps one history, whatever happened there
pub record IsEdgeOf (m : MapValue) (e : ℕ) (edge : PlainEdgeValue) : Type 0 where
  pub lower : edge.lower ≡ low_end m e
  pub higher : edge.higher ≡ high_end m e
  pub registers : edge.registers ≡ registers_of (sites_on m e)
  pub kept : IsKeptEdge edge

-- the board has the edges of the plane
pub record IsBoardOf (m : MapValue) (board : PlainBoardValue) : Type 0 where
  pub count : length board.edges ≡ length (pairs_of m)
  pub each : (e : ℕ) → e < length (pairs_of m) → IsEdgeOf m e (edge_at board e)

-- the tile was made with the map, and in some way it is underway on this board, whoever's end acts there now
pub record IsOnBoard (m : MapValue) (meaning : WindowValue → ℕ → WindowValue) (tile : TileValue) (board : PlainBoardValue) : Type 0 where
  pub map : tile.cache.map ≡ m
  pub underway : IsSome m meaning tile (lists_of_tile board tile.number)

-- a board that has only been made is one of the plane, and each tile that has only been made is underway there
abbrev pub NewBoardsFit : Type 0
NewBoardsFit = (m : MapValue) (meaning : WindowValue → ℕ → WindowValue) (t : ℕ) (start : Site → AtomValue) (attempts : List Attempt) (tile : TileValue) (board : PlainBoardValue) → IsPlane m → board.edges ≡ map untouched_edge (sizes_of m) → IsFreshTile m t start attempts tile
    → IsBoardOf m board × IsUnderway (common m meaning start) attempts tile (lists_of_tile board tile.number)

-- a board of the plane is the end of the tile whose end acts
abbrev pub ActingEndsFit : Type 0
ActingEndsFit = (m : MapValue) (board : PlainBoardValue) → IsPlane m → IsBoardOf m board → board.acting < tiles_of m → IsEndOf m board.acting (acting_end board)

-- whatever one tile's end does on a board, it stays one of the plane, and each other tile stays underway there, with the turns that it had
abbrev pub OthersStay : Type 0
OthersStay = (m : MapValue) (meaning : WindowValue → ℕ → WindowValue) (start : Site → AtomValue) (attempts : List Attempt) (tile : TileValue) (old new : PlainBoardValue) → IsPlane m → IsBoardOf m old → Moved old new → tile.number ≢ old.acting
    → (u : IsUnderway (common m meaning start) attempts tile (lists_of_tile old tile.number)) → IsBoardOf m new × ((v : IsUnderway (common m meaning start) attempts tile (lists_of_tile new tile.number)) × (v.turns ≡ u.turns))
