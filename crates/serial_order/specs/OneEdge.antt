-- One edge at any moment, by its own history and what the tiles at its two ends have done by then.
use Rattle.std.specs.Prelude.{ℕ, ◌≡◌, ◌≤◌, ◌<◌, ◌+◌, ◌*◌, ◌%◌, List, true, length, slice_get, Some}
use Rattle.std.specs.Int.{bit_at}
use Rattle.tile_map.specs.Plane.{Site, MapValue, IsMap, is_held}
use Rattle.tile_map.specs.Edges.{pairs_of, low_end, high_end, shared_of}
use Rattle.draw_stream.specs.declared.attempt.Attempt.{Attempt}
use Rattle.edge_lock.specs.declared.history.Hold.{Hold}
use Rattle.edge_lock.specs.History.{register_value, own, IsEdgeHistory}
use Rattle.edge_lock.specs.EndLists.{EndLists}
use Rattle.border_cache.specs.Cells.{cell_of}
use Rattle.border_cache.specs.News.{word_of}
use Rattle.border_cache.specs.Windows.{end_at, sites_on}
use Rattle.border_cache.specs.Copies.{held_cell}
use Rattle.tile_core.specs.Values.{TileValue}
use Rattle.tile_core.specs.Turns.{Common, HasPlayed, cells_of}
use Rattle.tile_core.specs.Underway.{made_by}
use Rattle.serial_order.specs.Scene.{EdgeHistory}

-- The tile has played the attempts that it drew. Its holds on the edge are those of its end in the edge's history, and its
-- cells are those that its turns left.
pub record HasPlayedOn (c : Common) (e : ℕ) (holds : List Hold) (tile : TileValue) : Type 0 where
  pub attempts : List Attempt
  pub lists : ℕ → EndLists
  pub played : HasPlayed c tile.number attempts (made_by tile lists)
  pub here : own (end_at c.map tile.number e) holds ≡ (lists e).holds
  pub cells : (s : Site) → is_held c.map tile.number s ≡ true → held_cell tile.cache s ≡ cells_of c.map c.start played.turns s

-- an edge of a plane with its history, and the tiles at its ends, both of which have played
pub record EndsHavePlayed (c : Common) (e : ℕ) (h : EdgeHistory) (lower higher : TileValue) : Type 0 where
  pub valid : IsMap c.map
  pub known : e < length (pairs_of c.map)
  pub history : IsEdgeHistory (sites_on c.map e) h.holds h.low h.high
  pub low_tile : lower.number ≡ low_end c.map e
  pub high_tile : higher.number ≡ high_end c.map e
  pub low_played : HasPlayedOn c e h.holds lower
  pub high_played : HasPlayedOn c e h.holds higher

-- if the news bit of the tile's end is 0 for a shared site, the edge's cell has no greater stamp than the tile's own
abbrev pub KnowsNewest : MapValue → ℕ → List Hold → TileValue → Type 0
KnowsNewest m e holds tile = (k : ℕ) (u : Site) → slice_get (shared_of m e) k ≡ Some u
    → bit_at (register_value holds (word_of (sites_on m e) (end_at m tile.number e) k)) (k % 64) ≡ 0
    → (cell_of (register_value holds (1 + 2 * k)) (register_value holds (2 + 2 * k))).stamp ≤ (held_cell tile.cache u).stamp

-- that holds of both tiles of one edge at any moment, whatever all other tiles do
abbrev pub NewsHoldsAtAnyMoment : Type 0
NewsHoldsAtAnyMoment = (c : Common) (e : ℕ) (h : EdgeHistory) (lower higher : TileValue) → EndsHavePlayed c e h lower higher
    → KnowsNewest c.map e h.holds lower × KnowsNewest c.map e h.holds higher
