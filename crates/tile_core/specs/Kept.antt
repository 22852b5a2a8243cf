-- What a tile keeps, as contracts see it, and the room in its lists.
use Rattle.std.specs.Prelude.{ℕ, ◌≡◌, ◌+◌, ◌≤◌, List, length, map, vec_len, vec_capacity, if◌then◌else◌}
use Rattle.bit_field.specs.Atom.{AtomValue}
use Rattle.window_sites.specs.Window.{WindowValue}
use Rattle.window_sites.specs.Inner.{site_numbers}
use Rattle.tile_map.specs.Plane.{Site, MapValue, site}
use Rattle.draw_stream.specs.declared.attempt.Attempt.{Attempt}
use Rattle.edge_lock.specs.EndLists.{EndLists}
use Rattle.edge_lock.specs.EndValues.{EndValue}
use Rattle.border_cache.specs.Windows.{is_shown}
use Rattle.border_cache.specs.Copies.{CacheValue, IsEndOf, shown_atom, Marked}
use Rattle.tile_core.specs.declared.phase.Phase.{Phase}
use Rattle.tile_core.specs.declared.phase.Phase.TheVariants.{Draw, Lock, Refresh, Behave, Write, Give, Back, Finished, Worn}
use Rattle.tile_core.specs.declared.state.State.{State}
use Rattle.tile_core.specs.Values.{TileValue, no_window}
use Rattle.tile_core.specs.Turns.{common}
use Rattle.tile_core.specs.Underway.{TileAt, tile_at, IsUnderway, IsSome}

-- the window that the cells at c show
unfoldable pub window_seen : CacheValue → Site → WindowValue
window_seen v c = record {
  atoms = map (shown_atom v.map v c) site_numbers;
  live = map (is_shown v.map c) site_numbers;
}

-- what an event left in the window, in the one phase in which it is yet to be written
abbrev pub until_written : Phase → WindowValue → WindowValue
until_written Draw w = no_window
until_written Lock w = no_window
until_written Refresh w = no_window
until_written Behave w = no_window
until_written Write w = w
until_written Give w = no_window
until_written Back w = no_window
until_written Finished w = no_window
until_written Worn w = no_window

-- The window that the event left. An event at an empty centre leaves it as the cells show it, and the tile keeps none
-- then.
abbrev pub left_window : State → WindowValue
left_window s = if s.idle then window_seen s.cache (site s.x s.y) else s.window

-- the sites of the window have what the event left there, and its stamp
abbrev pub LeavesMarks : State → CacheValue → Type 0
LeavesMarks s cache = Marked (site s.x s.y) (left_window s) s.event_stamp s.cache cache

abbrev pub value_of : State → TileValue
value_of s = record {
  number = s.number;
  cache = s.cache;
  left = s.attempts;
  taken = s.taken;
  stamp = s.stamp;
  x = s.x;
  y = s.y;
  seed = s.seed;
  needs = s.needs;
  next = s.next;
  count = s.count;
  event_stamp = s.event_stamp;
  window = until_written s.phase (left_window s);
  records = s.records.items;
  abandoned = s.abandoned.items;
  phase = s.phase;
}

-- what a tile keeps, on its end of the edges
abbrev pub at : State → EndValue → TileAt
at s end = tile_at (value_of s) end.lists

-- how many entries are still due for the attempt in hand
abbrev pub entries_due : Phase → ℕ
entries_due Draw = 0
entries_due Lock = 1
entries_due Refresh = 1
entries_due Behave = 1
entries_due Write = 1
entries_due Give = 0
entries_due Back = 0
entries_due Finished = 0
entries_due Worn = 1

-- each list has room for an entry of each attempt that is in hand or left
pub record HasRoom (s : State) : Type 0 where
  pub records : vec_len s.records + entries_due s.phase + length s.attempts ≤ vec_capacity s.records
  pub abandoned : vec_len s.abandoned + entries_due s.phase + length s.attempts ≤ vec_capacity s.abandoned

-- each list was made for this many entries, and no more
pub record Reserves (s : State) (entries : ℕ) : Type 0 where
  pub records : vec_capacity s.records ≡ entries
  pub abandoned : vec_capacity s.abandoned ≡ entries

-- in some way the tile is underway, in this phase
abbrev pub IsIn : MapValue → TileValue → (ℕ → EndLists) → Phase → Type 0
IsIn m tile lists phase = (meaning : WindowValue → ℕ → WindowValue) × (start : Site → AtomValue) × (attempts : List Attempt) × (tile.phase ≡ phase) × IsUnderway (common m meaning start) attempts tile lists

-- a step can be made: in some way the tile is underway on its end of the edges, and its lists have room
pub record IsReady (m : MapValue) (meaning : WindowValue → ℕ → WindowValue) (s : State) (end : EndValue) : Type 0 where
  pub underway : IsSome m meaning (value_of s) end.lists
  pub board : IsEndOf m s.number end
  pub room : HasRoom s

-- the same, for some meaning of events
abbrev pub IsReadySomehow : MapValue → State → EndValue → Type 0
IsReadySomehow m s end = (meaning : WindowValue → ℕ → WindowValue) × IsReady m meaning s end
