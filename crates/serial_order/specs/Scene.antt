-- All tiles and all edges of a plane when the tiles are over.
use Rattle.std.specs.Prelude.{ℕ, ◌≡◌, ◌<◌, ◌++◌, ◌==◌, List, [], ◌∷◌, length, map, slice_get, slice_index_or, if◌then◌else◌, true, Some}
use Rattle.window_sites.specs.Window.{WindowValue}
use Rattle.tile_map.specs.Plane.{Site, MapValue, IsMap, tiles_of, is_held}
use Rattle.tile_map.specs.Edges.{pairs_of, has_end}
use Rattle.cell_grid.specs.Grid.{GridValue, IsGrid}
use Rattle.draw_stream.specs.declared.attempt.Attempt.{Attempt}
use Rattle.draw_stream.specs.Plans.{PlanValue, IsPlan, attempts}
use Rattle.edge_lock.specs.declared.history.Hold.{Hold}
use Rattle.edge_lock.specs.declared.history.Refusal.{Refusal}
use Rattle.edge_lock.specs.History.{own, register_value, IsEdgeHistory}
use Rattle.edge_lock.specs.EndLists.{EndLists, end_lists}
use Rattle.event_journal.specs.Logs.{LogValue, log_of}
use Rattle.event_journal.specs.Serial.{Course, course}
use Rattle.border_cache.specs.Windows.{end_at, sites_on}
use Rattle.plane_grid.specs.PlaneGrids.{IsGridOf}
use Rattle.border_cache.specs.Copies.{held_cell}
use Rattle.tile_core.specs.declared.phase.Phase.{Phase}
use Rattle.tile_core.specs.declared.phase.Phase.TheVariants.{Draw, Lock, Refresh, Behave, Write, Give, Back, Finished, Worn}
use Rattle.tile_core.specs.Values.{TileValue, atoms_of}
use Rattle.tile_core.specs.Turns.{Common, common, Turn, Wins, Loses, Wears, Wearless, HasPlayed, cells_of}
use Rattle.tile_core.specs.Underway.{made_by}

-- the course on this map, whatever its own
abbrev pub on_map : MapValue → Course → Course
on_map m c = course m c.plan c.meaning c.start

-- this holds in some course of the map
abbrev pub InSomeCourse : MapValue → (Course → Type 0) → Type 0
InSomeCourse m P = (c : Course) × P (on_map m c)

-- this holds in whatever course of the map
abbrev pub InEachCourse : MapValue → (Course → Type 0) → Type 0
InEachCourse m P = (c : Course) → P (on_map m c)

-- what all tiles have in common in a course
abbrev pub common_in : Course → Common
common_in c = common c.map c.meaning (atoms_of c.start)

-- the history of an edge: the holds of both ends, and the refusals of each end, in order
pub record EdgeHistory : Type 0 where
  pub holds : List Hold
  pub low : List Refusal
  pub high : List Refusal

-- nothing happened
abbrev pub no_history : EdgeHistory
no_history = record { holds = []; low = []; high = [] }

abbrev pub history_at : List EdgeHistory → ℕ → EdgeHistory
history_at edges e = slice_index_or edges e no_history

-- what a register of an edge has at the end of its history
abbrev pub registers_at : List EdgeHistory → ℕ → ℕ → ℕ
registers_at edges e register = register_value (history_at edges e).holds register

-- what one end did
abbrev pub end_lists_of : ℕ → EdgeHistory → EndLists
end_lists_of end h = end_lists (own end h.holds) (if end == 0 then h.low else h.high)

-- what a tile's end did on each edge
abbrev pub lists_at : MapValue → List EdgeHistory → ℕ → ℕ → EndLists
lists_at m edges t e = if has_end m t e then end_lists_of (end_at m t e) (history_at edges e) else end_lists [] []

-- the last turn wore the tile out
abbrev pub WearsLast : List Turn → Type 0
WearsLast [] = ⊥
WearsLast (Wins w ∷ older) = ⊥
WearsLast (Loses l ∷ older) = ⊥
WearsLast (Wears w ∷ older) = Unit {0}

-- a finished tile has no attempt left, and a worn one was worn out by its last
abbrev pub IsStopped : Phase → List Attempt → List Turn → Type 0
IsStopped Draw rest turns = ⊥
IsStopped Lock rest turns = ⊥
IsStopped Refresh rest turns = ⊥
IsStopped Behave rest turns = ⊥
IsStopped Write rest turns = ⊥
IsStopped Give rest turns = ⊥
IsStopped Back rest turns = ⊥
IsStopped Finished rest turns = (rest ≡ []) × Wearless turns
IsStopped Worn rest turns = WearsLast turns

-- a tile is over: it has played the first of these attempts on its edges, all of them if it is
-- finished, and its cells are those that its turns left
pub record HasEnded (c : Common) (given : List Attempt) (lists : ℕ → EndLists) (tile : TileValue) : Type 0 where
  pub made : List Attempt
  pub rest : List Attempt
  pub all : given ≡ made ++ rest
  pub played : HasPlayed c tile.number made (made_by tile lists)
  pub ends : IsStopped tile.phase rest played.turns
  pub cells : (s : Site) → is_held c.map tile.number s ≡ true → held_cell tile.cache s ≡ cells_of c.map c.start played.turns s

-- a plane, what events do, the grid and the attempts from which the tiles started, and the tiles and the edges at the end
pub record Scene : Type 0 where
  pub map : MapValue
  pub meaning : WindowValue → ℕ → WindowValue
  pub start : GridValue
  pub plan : PlanValue
  pub tiles : List TileValue
  pub edges : List EdgeHistory

-- the course that the tiles of a scene have run
abbrev pub course_of : Scene → Course
course_of s = course s.map s.plan s.meaning s.start

-- from the start grid each tile played its attempts of the plan, and what the tiles' ends did on an edge is one history
pub record IsOver (s : Scene) : Type 0 where
  pub valid : IsMap s.map
  pub grid : IsGrid s.start
  pub fits : IsGridOf s.map s.start
  pub plan : IsPlan s.plan
  pub lists : length s.plan.lists ≡ tiles_of s.map
  pub count : length s.tiles ≡ tiles_of s.map
  pub numbers : (t : ℕ) (tile : TileValue) → slice_get s.tiles t ≡ Some tile → tile.number ≡ t
  pub ended : (t : ℕ) (tile : TileValue) → slice_get s.tiles t ≡ Some tile → HasEnded (common s.map s.meaning (atoms_of s.start)) (attempts s.plan t) (lists_at s.map s.edges t) tile
  pub known : length s.edges ≡ length (pairs_of s.map)
  pub histories : (e : ℕ) → e < length s.edges → IsEdgeHistory (sites_on s.map e) (history_at s.edges e).holds (history_at s.edges e).low (history_at s.edges e).high

-- a tile's log
abbrev pub log_of_tile : TileValue → LogValue
log_of_tile tile = log_of tile.number tile.records tile.abandoned

abbrev pub logs_of : List TileValue → List LogValue
logs_of tiles = map log_of_tile tiles
