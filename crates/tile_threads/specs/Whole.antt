-- A whole run: from workers of fresh tiles to tiles that are over and edges that are closed.
use Rattle.std.specs.Prelude.{ℕ, ◌≡◌, ◌<◌, List, [], ◌∷◌, length, map, slice_get, slice_index_or, All, Some}
use Rattle.window_sites.specs.Window.{WindowValue}
use Rattle.tile_map.specs.Plane.{MapValue, tiles_of}
use Rattle.tile_map.specs.Edges.{pairs_of}
use Rattle.draw_stream.specs.Plans.{attempts}
use Rattle.edge_lock.specs.EndValues.{EndValue}
use Rattle.event_journal.specs.Serial.{Course}
use Rattle.edge_lock.specs.Passes.{EdgeValue, PassValue, ClosedValue}
use Rattle.edge_lock.specs.SharedEnds.{SharedEndValue, shared_end_value, edge_and_end, pass_lists}
use Rattle.border_cache.specs.Copies.{IsEndOf}
use Rattle.tile_core.specs.Values.{TileWith, TileValue}
use Rattle.tile_core.specs.Turns.{AgreeOnEdges}
use Rattle.tile_core.specs.Underway.{IsSome, IsMade}
use Rattle.serial_order.specs.Scene.{common_in, IsOver, HasEnded}
use Rattle.serial_order.specs.Words.{closed_words, AreEdgeWords, closed_histories}
use Rattle.serial_order.specs.Boards.{HasStopped}
use Rattle.serial_order.specs.Outcomes.{scene_of, values_of}
use Rattle.tile_threads.specs.declared.worker.Worker.{Worker}
use Rattle.tile_threads.specs.Passes.{passes_of, shared_edges, let_go, AreLeft}

-- a worker of a tile with these passes
abbrev pub worker_of : {B : Type 0} → TileWith B → List PassValue → Worker B SharedEndValue
worker_of x passes = record { tile = x; end = shared_end_value x.core.number passes }

abbrev pub workers_of : {B : Type 0} → List (TileWith B) → List (List PassValue) → List (Worker B SharedEndValue)
workers_of [] all = []
workers_of (x ∷ tiles) [] = []
workers_of (x ∷ tiles) (passes ∷ all) = worker_of x passes ∷ workers_of tiles all

-- the tiles of workers
abbrev pub tiles_in : {B D : Type 0} → List (Worker B D) → List (TileWith B)
tiles_in workers = map (λ w. w.tile) workers

-- a tile that makes no further step, and the end that it has of the plane's edges
pub record IsDone (m : MapValue) (tile : TileValue) (end : EndValue) : Type 0 where
  pub map : tile.cache.map ≡ m
  pub board : IsEndOf m tile.number end
  pub stopped : HasStopped tile
  pub underway : (meaning : WindowValue → ℕ → WindowValue) × IsSome m meaning tile end.lists

-- a tile's passes are those that its end had, and what the end still had was given back
pub record CameHome (m : MapValue) (t : ℕ) (was passes : List PassValue) : Type 0 where
  pub same : map edge_and_end passes ≡ map edge_and_end was
  pub lists_are : AgreeOnEdges m t (pass_lists passes) (λ e. let_go (pass_lists was e))

-- all passes of these workers came home
pub record HaveComeHome {B : Type 0} (m : MapValue) (workers : List (Worker B SharedEndValue)) (passes : List (List PassValue)) : Type 0 where
  pub count : length passes ≡ length workers
  pub each : (t : ℕ) (none : Worker B SharedEndValue) → t < length workers → CameHome m (slice_index_or workers t none).tile.core.number (slice_index_or workers t none).end.passes (passes_of passes t)

-- all tiles are over, and no tile has an edge; the edges are still to be closed
pub record HaveReturned {B : Type 0} (c : Course) (edges : List EdgeValue) (tiles : List (TileWith B)) (passes : List (List PassValue)) : Type 0 where
  pub count : length tiles ≡ tiles_of c.map
  pub numbers : (t : ℕ) (x : TileWith B) → slice_get tiles t ≡ Some x → x.core.number ≡ t
  pub made : All (λ (x : TileWith B). IsMade c.map x.core) tiles
  pub ended : (t : ℕ) (x : TileWith B) → slice_get tiles t ≡ Some x → HasEnded (common_in c) (attempts c.plan t) (pass_lists (passes_of passes t)) x.core
  pub left : AreLeft c.map (shared_edges edges (λ t. pass_lists (passes_of passes t))) 0 (length (pairs_of c.map)) passes

-- the run is over: everything holds that the settling of its grid and journal requires
pub record HasRun {B : Type 0} (c : Course) (tiles : List (TileWith B)) (closed : List ClosedValue) : Type 0 where
  pub made : All (λ (x : TileWith B). IsMade c.map x.core) tiles
  pub words : AreEdgeWords c.map (closed_words closed)
  pub over : IsOver (scene_of c (values_of tiles) (closed_histories closed))
