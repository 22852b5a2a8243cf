-- What one step of each phase does to a tile and to the lists of its ends.
use Rattle.std.specs.Prelude.{ℕ, zero, suc, ◌≡◌, ◌≤◌, ◌<◌, ◌+◌, ◌-◌, ◌⊎◌, List, [], ◌∷◌, ◌++◌, length, slice_index, nat_lt, Bool, true, false}
use Rattle.window_sites.specs.Window.{WindowValue}
use Rattle.tile_map.specs.Plane.{MapValue, site, site_in, in_plane, is_owned}
use Rattle.tile_map.specs.Edges.{needs_of, other_end}
use Rattle.cell_grid.specs.declared.record.Record.{Record}
use Rattle.event_journal.specs.declared.abandoned.Abandoned.{Abandoned}
use Rattle.draw_stream.specs.declared.attempt.Attempt.{Attempt}
use Rattle.edge_lock.specs.declared.board.Take.{Take}
use Rattle.edge_lock.specs.declared.board.Take.TheVariants.{Got, Busy}
use Rattle.edge_lock.specs.EndValues.{EndValue}
use Rattle.edge_lock.specs.EndLists.{EndLists, after_try, after_give, replace_at}
use Rattle.border_cache.specs.Windows.{IsView, centre_of, PublishesAll}
use Rattle.border_cache.specs.Copies.{CacheValue, copy_at, window_cells, Refreshed, Marked}
use Rattle.tile_core.specs.declared.phase.Phase.{Phase}
use Rattle.tile_core.specs.declared.phase.Phase.TheVariants.{Draw, Lock, Refresh, Behave, Write, Give, Back, Finished, Worn}
use Rattle.tile_core.specs.Values.{TileValue, centre, no_window}
use Rattle.tile_core.specs.Clocks.{ReadsClocks, WritesClocks}
use Rattle.tile_core.specs.Underway.{TileAt, tile_at}
use Rattle.feast_base.specs.declared.limits.TheConstants.{LAST_STAMP}

-- the phase once an attempt is over
abbrev pub over : List Attempt → Phase
over [] = Finished
over (a ∷ others) = Draw

-- the phase of an attempt that needs these edges
abbrev pub first_phase : List ℕ → Phase
first_phase [] = Refresh
first_phase (e ∷ es) = Lock

-- the phase after a refusal, with this many edges to give back
abbrev pub refused_phase : ℕ → List Attempt → Phase
refused_phase zero left = over left
refused_phase (suc n) left = Back

-- the phase after an event that has these edges
abbrev pub written_phase : List ℕ → List Attempt → Phase
written_phase [] left = over left
written_phase (e ∷ es) left = Give

-- what a tile's steps go by: the plane, what an event makes of a window, and which end of each edge the tile is
pub record Rules : Type 0 where
  pub map : MapValue
  pub meaning : WindowValue → ℕ → WindowValue
  pub end_of : ℕ → ℕ

abbrev pub rules_of : MapValue → (WindowValue → ℕ → WindowValue) → (ℕ → ℕ) → Rules
rules_of map meaning end_of = record { map = map; meaning = meaning; end_of = end_of }

-- an attempt is in hand
pub record Begins (m : MapValue) (attempt : Attempt) (old new : TileValue) : Type 0 where
  pub site_is : site new.x new.y ≡ site_in m old.number attempt.centre
  pub owned : is_owned m old.number (site new.x new.y) ≡ true
  pub inside : in_plane m (site new.x new.y) ≡ true
  pub is : new ≡ record old { taken = old.taken + 1; x = new.x; y = new.y; seed = attempt.seed; needs = needs_of m old.number (site new.x new.y); next = 0; phase = first_phase (needs_of m old.number (site new.x new.y)) }

-- Draw: the next attempt is in hand
pub record Draws (m : MapValue) (old new : TileValue) : Type 0 where
  pub attempt : Attempt
  pub rest : List Attempt
  pub first : old.left ≡ attempt ∷ rest
  pub begins : Begins m attempt (record old { left = rest }) new

-- the edge that the tile tries or frees next
abbrev pub next_edge : TileValue → ℕ
next_edge tile = slice_index tile.needs tile.next

-- the entry of an attempt that was refused
abbrev pub refused_entry : MapValue → TileValue → ℕ → ℕ → Abandoned
refused_entry m tile edge holder_attempt = record { tile = tile.number; attempt = tile.taken - 1; x = tile.x; y = tile.y; edge = edge; holder = other_end m tile.number edge; holder_attempt = holder_attempt }

-- the tile after it was refused
abbrev pub tile_after_refusal : MapValue → TileValue → ℕ → ℕ → TileValue
tile_after_refusal m tile edge holder_attempt = record tile { abandoned = tile.abandoned ++ refused_entry m tile edge holder_attempt ∷ []; next = 0; count = tile.next; phase = refused_phase tile.next tile.left }

-- the tile after it got an edge: there is a next one to try, or not
abbrev pub tile_with_edge : Bool → TileValue → TileValue
tile_with_edge true tile = record tile { next = tile.next + 1 }
tile_with_edge false tile = record tile { phase = Refresh }

-- the tile after a try got this answer
abbrev pub tile_after_try : MapValue → TileValue → Take → TileValue
tile_after_try m tile Got = tile_with_edge (nat_lt (tile.next + 1) (length tile.needs)) tile
tile_after_try m tile (Busy holder) = tile_after_refusal m tile (next_edge tile) holder

-- Lock: one try was made, and the tile is as its answer says
pub record Tries (m : MapValue) (end_of : ℕ → ℕ) (old new : TileAt) : Type 0 where
  pub answer : Take
  pub lists_are : new.lists ≡ replace_at old.lists (next_edge old.tile) (after_try (end_of (next_edge old.tile)) (old.tile.taken - 1) answer (old.lists (next_edge old.tile)))
  pub is : new.tile ≡ tile_after_try m old.tile answer

-- the tile after a refresh
abbrev pub tile_after_refresh : TileValue → ℕ → CacheValue → TileValue
tile_after_refresh tile top cache = record tile { cache = cache; event_stamp = top + 1; phase = Behave }

-- the tile is worn out, and nothing else happened
pub record WearsOut (old new : TileValue) (top : ℕ) (between lists' : ℕ → EndLists) : Type 0 where
  pub high : LAST_STAMP ≤ top
  pub lists_are : lists' ≡ between
  pub is : new ≡ record old { phase = Worn }

-- the cells of the window are brought up to date
pub record Renews (old new : TileValue) (top : ℕ) (between lists' : ℕ → EndLists) : Type 0 where
  pub low : top < LAST_STAMP
  pub cells : Refreshed (centre old) old.needs (copy_at old.cache between) (copy_at new.cache lists')
  pub is : new ≡ tile_after_refresh old top new.cache

-- Refresh: the clocks of all needed edges are read. Then the tile is worn out if one is too great,
-- or else the cells of the window are brought up to date.
pub record Refreshes (old new : TileAt) : Type 0 where
  pub top : ℕ
  pub between : ℕ → EndLists
  pub clocks : ReadsClocks old.tile.needs old.tile.stamp top old.lists between
  pub step : WearsOut old.tile new.tile top between new.lists ⊎ Renews old.tile new.tile top between new.lists

-- Behave: the event runs on the window
pub record Behaves (m : MapValue) (meaning : WindowValue → ℕ → WindowValue) (old new : TileValue) : Type 0 where
  pub view : WindowValue
  pub shows : IsView m (centre old) (window_cells old.cache (centre old)) view
  pub is : new ≡ record old { window = meaning view old.seed; phase = Write }

-- the entry of the event
abbrev pub event_entry : TileValue → Record
event_entry tile = record { stamp = tile.event_stamp; tile = tile.number; attempt = tile.taken - 1; x = tile.x; y = tile.y; seed = tile.seed }

-- the tile after it noted its event
abbrev pub tile_after_event : TileValue → TileValue
tile_after_event tile = record tile { stamp = tile.event_stamp; window = no_window; records = tile.records ++ event_entry tile ∷ []; next = 0; phase = written_phase tile.needs tile.left }

-- Write: the window is marked and published, the clocks are set, and the event is noted
pub record Writes (m : MapValue) (old new : TileAt) : Type 0 where
  pub between : ℕ → EndLists
  pub marks : Marked (centre old.tile) old.tile.window old.tile.event_stamp old.tile.cache new.tile.cache
  pub publishes : PublishesAll (centre_of m old.tile.number (centre old.tile)) old.tile.needs (window_cells new.tile.cache (centre old.tile)) old.lists between
  pub stamps : WritesClocks old.tile.needs old.tile.event_stamp between new.lists
  pub is : new.tile ≡ tile_after_event (record old.tile { cache = new.tile.cache })

-- the tile after it freed an edge: there is a next one, or not
abbrev pub tile_after_give : Bool → TileValue → TileValue
tile_after_give true tile = record tile { next = tile.next + 1 }
tile_after_give false tile = record tile { phase = over tile.left }

-- Give and Back: one edge is freed, one of the first `count` that are needed
pub record Frees (count : ℕ) (old new : TileAt) : Type 0 where
  pub lists_are : new.lists ≡ replace_at old.lists (next_edge old.tile) (after_give (old.lists (next_edge old.tile)))
  pub is : new.tile ≡ tile_after_give (nat_lt (old.tile.next + 1) count) old.tile

-- nothing happened
pub record Rests (old new : TileAt) : Type 0 where
  pub is : new.tile ≡ old.tile
  pub lists_are : new.lists ≡ old.lists

-- one step of a tile in this phase
abbrev pub StepsIn : Rules → TileAt → TileAt → Phase → Type 0
StepsIn r old new Draw = Draws r.map old.tile new.tile × (new.lists ≡ old.lists)
StepsIn r old new Lock = Tries r.map r.end_of old new
StepsIn r old new Refresh = Refreshes old new
StepsIn r old new Behave = Behaves r.map r.meaning old.tile new.tile × (new.lists ≡ old.lists)
StepsIn r old new Write = Writes r.map old new
StepsIn r old new Give = Frees (length old.tile.needs) old new
StepsIn r old new Back = Frees old.tile.count old new
StepsIn r old new Finished = Rests old new
StepsIn r old new Worn = Rests old new

-- one step of a tile on its end of the edges, on the plane of its map
abbrev pub Steps : (WindowValue → ℕ → WindowValue) → TileValue → EndValue → TileValue → EndValue → Type 0
Steps meaning old end new end' = StepsIn (rules_of old.cache.map meaning end.end_of) (tile_at old end.lists) (tile_at new end'.lists) old.phase

-- whether no attempt in hand goes on
abbrev pub is_over : Phase → Bool
is_over Draw = true
is_over Lock = false
is_over Refresh = false
is_over Behave = false
is_over Write = false
is_over Give = false
is_over Back = false
is_over Finished = true
is_over Worn = true

-- how many steps an attempt takes at most from a phase on
abbrev pub steps_in : TileValue → Phase → ℕ
steps_in tile Draw = 0
steps_in tile Lock = 40 + (length tile.needs - tile.next)
steps_in tile Refresh = 30
steps_in tile Behave = 29
steps_in tile Write = 28
steps_in tile Give = 1 + (length tile.needs - tile.next)
steps_in tile Back = 1 + (tile.count - tile.next)
steps_in tile Finished = 0
steps_in tile Worn = 0
