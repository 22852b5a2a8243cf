-- What a run does to each worker.
use Rattle.std.specs.Prelude.{ℕ, ◌≡◌, ◌<◌, List, All, length, slice_index_or, Bool, true, false}
use Rattle.bit_field.specs.Atom.{AtomValue}
use Rattle.window_sites.specs.Window.{WindowValue}
use Rattle.tile_map.specs.Plane.{Site, MapValue}
use Rattle.draw_stream.specs.declared.attempt.Attempt.{Attempt}
use Rattle.edge_lock.specs.EndValues.{EndValue, SameEnd}
use Rattle.border_cache.specs.Copies.{IsEndOf}
use Rattle.tile_core.specs.declared.phase.Phase.{Phase}
use Rattle.tile_core.specs.declared.phase.Phase.TheVariants.{Draw, Lock, Refresh, Behave, Write, Give, Back, Finished, Worn}
use Rattle.tile_core.specs.Steps.{is_over}
use Rattle.tile_core.specs.Underway.{TileAt, tile_at, IsUnderway, IsSome, GoesFar}
use Rattle.serial_order.specs.Scene.{HasEnded}
use Rattle.serial_order.specs.Boards.{HasStopped}
use Rattle.tile_threads.specs.declared.worker.Worker.{Worker}
use Rattle.tile_core.specs.Turns.{common}
use Rattle.tile_core.specs.Values.{TileValue}

-- the next step draws an attempt
abbrev pub is_drawing : Phase → Bool
is_drawing Draw = true
is_drawing Lock = false
is_drawing Refresh = false
is_drawing Behave = false
is_drawing Write = false
is_drawing Give = false
is_drawing Back = false
is_drawing Finished = false
is_drawing Worn = false

-- what contracts see of a worker: its tile, what the tile's events do, and its end of its edges
pub record WorkerValue : Type 0 where
  pub tile : TileValue
  pub meaning : WindowValue → ℕ → WindowValue
  pub end : EndValue

-- a worker as contracts see it: `after` says what its tile's events do, and `end` what its end shows
abbrev pub worker_value : {B D : Type 0} → (B → WindowValue → ℕ → WindowValue) → (D → EndValue) → Worker B D → WorkerValue
worker_value after end w = record { tile = w.tile.core; meaning = after w.tile.behave; end = end w.end }

-- a worker's tile, with the lists of its end
abbrev pub tile_in : WorkerValue → TileAt
tile_in w = tile_at w.tile w.end.lists

-- A worker that can begin: its tile was made with the map and has no attempt in hand, its end is the tile's end of the plane's
-- edges, and what the lists of this end have is what the tile's steps have made, from some start and attempts.
pub record IsReady (m : MapValue) (w : WorkerValue) : Type 0 where
  pub map : w.tile.cache.map ≡ m
  pub board : IsEndOf m w.tile.number w.end
  pub between : is_over w.tile.phase ≡ true
  pub underway : IsSome m w.meaning w.tile w.end.lists

-- from whatever start and attempts the tile was underway, it is over now
abbrev pub Ends : MapValue → WorkerValue → WorkerValue → Type 0
Ends m old new = (start : Site → AtomValue) (attempts : List Attempt) → IsUnderway (common m old.meaning start) attempts old.tile old.end.lists
    → HasEnded (common m old.meaning start) attempts new.end.lists new.tile

-- A worker that is done: its tile is finished, or worn out with the edges of its last attempt, and has played its attempts on
-- the lists of its end. The tile's number, map and meaning stay, and so do the end's tile and edges.
pub record HasWorked (m : MapValue) (old new : WorkerValue) : Type 0 where
  pub stopped : HasStopped new.tile
  pub far : GoesFar m old.meaning (tile_in old) (tile_in new)
  pub ends : Ends m old new
  pub number : new.tile.number ≡ old.tile.number
  pub map : new.tile.cache.map ≡ old.tile.cache.map
  pub meaning : new.meaning ≡ old.meaning
  pub same : SameEnd old.end new.end

-- each worker of the one list became that of the other
abbrev pub EachDid : {W : Type 0} → (W → W → Type 0) → List W → List W → Type 0
EachDid {W} did old new = (k : ℕ) (none : W) → k < length old → did (slice_index_or old k none) (slice_index_or new k none)

-- all workers can begin
abbrev pub AreReady : {B D : Type 0} → (B → WindowValue → ℕ → WindowValue) → (D → EndValue) → MapValue → List (Worker B D) → Type 0
AreReady after end m workers = All (λ w. IsReady m (worker_value after end w)) workers

-- all workers are done
abbrev pub HaveWorked : {B D : Type 0} → (B → WindowValue → ℕ → WindowValue) → (D → EndValue) → MapValue → List (Worker B D) → List (Worker B D) → Type 0
HaveWorked after end m old new = EachDid (λ v w. HasWorked m (worker_value after end v) (worker_value after end w)) old new

-- each end has moved on from what it was
abbrev pub EndsMoved : {B D : Type 0} → (D → D → Type 0) → List (Worker B D) → List (Worker B D) → Type 0
EndsMoved moved old new = EachDid (λ v w. moved v.end w.end) old new
