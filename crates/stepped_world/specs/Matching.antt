-- When the tiles of a plane and their edges are as the stepped machine has them.
use Rattle.std.specs.Prelude.{ℕ, ◌≡◌, ◌<◌, ◌-◌, List, Option, Some, None, ◌==◌, if◌then◌else◌, length, take, drop, slice_get}
use Rattle.event_journal.specs.Logs.{of_tile, abandoned_by}
use Rattle.tile_map.specs.Plane.{MapValue}
use Rattle.tile_map.specs.Edges.{pairs_of, low_end, high_end}
use Rattle.edge_lock.specs.declared.history.Hold.{Hold}
use Rattle.edge_lock.specs.History.{register_value, open_hold}
use Rattle.edge_lock.specs.PlainBoard.{PlainBoardValue, edge_at}
use Rattle.tile_core.specs.declared.phase.Phase.{Phase}
use Rattle.tile_core.specs.declared.phase.Phase.TheVariants.{Draw, Lock, Refresh, Behave, Write, Give, Back, Finished, Worn}
use Rattle.tile_core.specs.Values.{TileWith, TileValue, centre}
use Rattle.stepped_world.specs.Machine.{Hand, Doing, Drawing, Done, Refreshing, Behaving, Writing, TileState, EdgeState, Machine, next_lock, next_give, next_back}

-- the attempt that a tile has in hand
abbrev pub hand_in : TileValue → Hand
hand_in tile = record { attempt = tile.taken - 1; site = centre tile; seed = tile.seed }

-- what a tile is doing in a phase, in the machine's words; it has none for a worn tile
abbrev pub doing_in : TileValue → Phase → Option Doing
doing_in tile Draw = Some Drawing
doing_in tile Lock = Some (next_lock (hand_in tile) (take tile.next tile.needs) (drop tile.next tile.needs))
doing_in tile Refresh = Some (Refreshing (hand_in tile))
doing_in tile Behave = Some (Behaving (hand_in tile))
doing_in tile Write = Some (Writing (hand_in tile))
doing_in tile Give = Some (next_give (drop tile.next tile.needs) tile.left)
doing_in tile Back = Some (next_back (drop tile.next (take tile.count tile.needs)) tile.left)
doing_in tile Finished = Some Done
doing_in tile Worn = None

-- the tile is as the machine has it
pub record IsTileIn (tile : TileValue) (state : TileState) : Type 0 where
  pub doing : doing_in tile tile.phase ≡ Some state.doing
  pub left : tile.left ≡ state.left
  pub taken : tile.taken ≡ state.taken
  pub clock : tile.stamp ≡ state.clock

-- the tile and the attempt of a hold
abbrev pub who : MapValue → ℕ → Option Hold → Option (ℕ × ℕ)
who m e None = None
who m e (Some hold) = Some (if hold.end == 0 then low_end m e else high_end m e, hold.attempt)

-- an edge with these holds is as the machine has it: its register 0 is the clock, and its open hold is the holder's
pub record IsEdgeIn (m : MapValue) (e : ℕ) (holds : List Hold) (state : EdgeState) : Type 0 where
  pub clock : register_value holds 0 ≡ state.clock
  pub holder : who m e (open_hold holds) ≡ state.holder

-- all tiles and all edges are as the machine has them, and so are the tiles' entries
pub record Matches {B : Type 0} (m : MapValue) (tiles : List (TileWith B)) (board : PlainBoardValue) (s : Machine) : Type 0 where
  pub tiles_are : (t : ℕ) (x : TileWith B) → slice_get tiles t ≡ Some x → IsTileIn x.core (s.tile t)
  pub records : (t : ℕ) (x : TileWith B) → slice_get tiles t ≡ Some x → x.core.records ≡ of_tile t s.records
  pub abandoned : (t : ℕ) (x : TileWith B) → slice_get tiles t ≡ Some x → x.core.abandoned ≡ abandoned_by t s.abandoned
  pub edges : (e : ℕ) → e < length (pairs_of m) → IsEdgeIn m e (edge_at board e).holds (s.edge e)
