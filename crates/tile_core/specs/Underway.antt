-- What is known of a tile and of the lists of its end of each edge at each phase.
use Rattle.std.specs.Prelude.{ℕ, ◌≡◌, ◌≤◌, ◌<◌, ◌+◌, ◌*◌, ◌⊎◌, ◌&&◌, not, List, [], ◌∷◌, length, take, drop, slice_get, Bool, true, false, Some, None}
use Rattle.std.specs.List.Sorted.{IsStrictlyIncreasing}
use Rattle.bit_field.specs.Atom.{AtomValue}
use Rattle.window_sites.specs.Window.{WindowValue, atom_at}
use Rattle.tile_map.specs.Plane.{Site, MapValue, tiles_of, is_on, is_held, in_window}
use Rattle.tile_map.specs.Edges.{window_site, needs_of, has_end}
use Rattle.tile_map.specs.declared.limits.TheConstants.{MOST_NEEDS}
use Rattle.draw_stream.specs.declared.attempt.Attempt.{Attempt}
use Rattle.edge_lock.specs.declared.history.Access.{Access}
use Rattle.edge_lock.specs.declared.history.Access.TheVariants.{Read}
use Rattle.edge_lock.specs.EndLists.{EndLists, end_lists, hold_of}
use Rattle.edge_lock.specs.EndValues.{EndValue}
use Rattle.border_cache.specs.Accesses.{IsHonest}
use Rattle.border_cache.specs.News.{IsRefresh}
use Rattle.border_cache.specs.Windows.{has, end_at, border_at, IsView}
use Rattle.border_cache.specs.Copies.{IsCentre, held_cell}
use Rattle.tile_core.specs.declared.phase.Phase.{Phase}
use Rattle.tile_core.specs.declared.phase.Phase.TheVariants.{Draw, Lock, Refresh, Behave, Write, Give, Back, Finished, Worn}
use Rattle.tile_core.specs.Values.{TileValue, centre}
use Rattle.tile_core.specs.Turns.{Common, common, Made, made_of, HasPlayed, Turn, Wins, Loses, Wears, AreTurns, AreAttempts, IsAttemptAt, Wearless, turn_edges, AgreeOnEdges, lists_of, lists_left, with_more, one_if, cells_of, stamp_of, clock_in, greatest, records_in_turns, abandoned_in_turns, newest_at}
use Rattle.feast_base.specs.declared.limits.TheConstants.{LAST_STAMP, MOST_ATTEMPTS}

-- a tile at a moment, with the lists of its end of each edge
pub record TileAt : Type 0 where
  pub tile : TileValue
  pub lists : ℕ → EndLists

abbrev pub tile_at : TileValue → (ℕ → EndLists) → TileAt
tile_at tile lists = record { tile = tile; lists = lists }

-- the attempt in hand has these edges, with these accesses so far
abbrev pub HasOpen : MapValue → List Turn → TileAt → List ℕ → (ℕ → List Access) → Type 0
HasOpen m turns now edges accesses =
    AgreeOnEdges m now.tile.number now.lists (λ e. with_more (one_if (has e edges) (hold_of (end_at m now.tile.number e) (length turns) (accesses e) true)) [] (lists_of m now.tile.number turns e))

abbrev pub no_access : ℕ → List Access
no_access e = []

-- an attempt was drawn, whose number is that of the turns before
pub record IsDrawn (m : MapValue) (attempts : List Attempt) (turns : List Turn) (tile : TileValue) : Type 0 where
  pub taken : tile.taken ≡ length turns + 1
  pub made : IsAttemptAt m tile.number (slice_get attempts (length turns)) (centre tile) tile.seed
  pub centre_is : IsCentre m tile.number (centre tile)
  pub needs : tile.needs ≡ needs_of m tile.number (centre tile)

-- of each needed edge the clock was read, and then the news
pub record IsRead (m : MapValue) (tile : TileValue) (accesses : ℕ → List Access) : Type 0 where
  pub clock : ℕ → ℕ
  pub reads : ℕ → List Access
  pub is : (e : ℕ) → has e tile.needs ≡ true → accesses e ≡ Read 0 (clock e) ∷ reads e
  pub refresh : (e : ℕ) → has e tile.needs ≡ true → IsRefresh (border_at m tile.number (centre tile) e) (reads e)
  pub honest : (e : ℕ) → has e tile.needs ≡ true → IsHonest (λ r. None) (accesses e)

-- the tile is worn out: the clocks were read, and one is too great
pub record IsSpent (turns : List Turn) (tile : TileValue) (accesses : ℕ → List Access) : Type 0 where
  pub clock : ℕ → ℕ
  pub is : (e : ℕ) → has e tile.needs ≡ true → accesses e ≡ Read 0 (clock e) ∷ []
  pub high : LAST_STAMP ≤ greatest (stamp_of turns) (λ e. clock_in (accesses e)) tile.needs

-- the event's stamp is known, and the cells of the window are up to date
pub record IsUpToDate (c : Common) (turns : List Turn) (tile : TileValue) (accesses : ℕ → List Access) : Type 0 where
  pub stamp : tile.event_stamp ≡ 1 + greatest (stamp_of turns) (λ e. clock_in (accesses e)) tile.needs
  pub small : tile.event_stamp ≤ LAST_STAMP
  pub cells : (n : ℕ) (s : Site) → n < 41 → window_site c.map (centre tile) n ≡ Some s
      → held_cell tile.cache s ≡ newest_at c.map tile.number (cells_of c.map c.start turns) (centre tile) accesses n

-- the event has run on what was read
pub record IsRun (c : Common) (turns : List Turn) (tile : TileValue) (accesses : ℕ → List Access) : Type 0 where
  pub after : Site → AtomValue
  pub view : WindowValue
  pub stamp : tile.event_stamp ≡ 1 + greatest (stamp_of turns) (λ e. clock_in (accesses e)) tile.needs
  pub small : tile.event_stamp ≤ LAST_STAMP
  pub shows : IsView c.map (centre tile) (newest_at c.map tile.number (cells_of c.map c.start turns) (centre tile) accesses) view
  pub acts : (n : ℕ) (s : Site) → n < 41 → window_site c.map (centre tile) n ≡ Some s → after s ≡ atom_at (c.meaning view tile.seed) n
  pub left : (n : ℕ) (s : Site) → n < 41 → window_site c.map (centre tile) n ≡ Some s → after s ≡ atom_at tile.window n

-- whether the last turn still has its hold on the edge
abbrev pub still : List ℕ → ℕ → ℕ → Bool
still edges next e = has e edges && not (has e (take next edges))

-- the holds of the last turn, on these edges, were given back on all that come before the tile's next one
abbrev pub IsGiving : MapValue → List Turn → TileAt → List ℕ → Type 0
IsGiving m [] now edges = ⊥
IsGiving m (x ∷ older) now edges =
    (edges ≡ turn_edges m now.tile.number x) × AgreeOnEdges m now.tile.number now.lists (lists_left m now.tile.number (still edges now.tile.next) x older)

-- the last turn is an abandoned attempt
abbrev pub IsBack : List Turn → Type 0
IsBack [] = ⊥
IsBack (Wins w ∷ older) = ⊥
IsBack (Loses l ∷ older) = Unit {0}
IsBack (Wears w ∷ older) = ⊥

-- on the tile's edges the lists have the holds and refusals of the turns, and nothing more
abbrev pub AreTurnsOver : MapValue → ℕ → List Turn → (ℕ → EndLists) → Type 0
AreTurnsOver m t turns lists = AgreeOnEdges m t lists (lists_of m t turns)

-- what is known at each phase, of a tile with these attempts, after these turns
module _ (c : Common) (attempts : List Attempt) (turns : List Turn) (now : TileAt) where
  -- each attempt that was drawn is one of the turns
  abbrev pub AllAreTurns : Type 0
  AllAreTurns = now.tile.taken ≡ length turns

  -- on the tile's edges the lists have the holds and refusals of the turns, and nothing more: no hold is open
  abbrev pub NoneIsOpen : Type 0
  NoneIsOpen = AreTurnsOver c.map now.tile.number turns now.lists

  -- one attempt more was drawn, and it is in hand
  abbrev pub IsInHand : Type 0
  IsInHand = IsDrawn c.map attempts turns now.tile

  -- the attempt in hand has these edges, and has read and written nothing there
  abbrev pub HasGot : List ℕ → Type 0
  HasGot edges = HasOpen c.map turns now edges no_access

  -- the attempt in hand has all its edges, and has read and written this there
  abbrev pub HasAll : (ℕ → List Access) → Type 0
  HasAll accesses = HasOpen c.map turns now now.tile.needs accesses

  -- the last turn had these edges, and gives them back one by one
  abbrev pub GivesBack : List ℕ → Type 0
  GivesBack edges = IsGiving c.map turns now edges

  abbrev pub InPhase : Phase → Type 0
  InPhase Draw = AllAreTurns × (0 < length now.tile.left) × NoneIsOpen
  InPhase Finished = AllAreTurns × (now.tile.left ≡ []) × NoneIsOpen
  InPhase Lock = IsInHand × (now.tile.next < length now.tile.needs) × HasGot (take now.tile.next now.tile.needs)
  InPhase Refresh = IsInHand × HasGot now.tile.needs
  InPhase Behave = IsInHand × ((a : ℕ → List Access) × HasAll a × IsRead c.map now.tile a × IsUpToDate c turns now.tile a)
  InPhase Write = IsInHand × ((a : ℕ → List Access) × HasAll a × IsRead c.map now.tile a × IsRun c turns now.tile a)
  InPhase Give = AllAreTurns × (now.tile.next < length now.tile.needs) × GivesBack now.tile.needs
  InPhase Back = AllAreTurns × (now.tile.next < now.tile.count) × (now.tile.count ≤ length now.tile.needs) × IsBack turns × GivesBack (take now.tile.count now.tile.needs)
  InPhase Worn = IsInHand × ((a : ℕ → List Access) × HasAll a × IsSpent turns now.tile a)

-- whether the window of the attempt in hand was refreshed, and its event is not yet written
abbrev pub is_refreshed : Phase → Bool
is_refreshed Draw = false
is_refreshed Lock = false
is_refreshed Refresh = false
is_refreshed Behave = true
is_refreshed Write = true
is_refreshed Give = false
is_refreshed Back = false
is_refreshed Finished = false
is_refreshed Worn = false

-- the edges of the last attempt that was drawn
pub record AreNeeds (m : MapValue) (t : ℕ) (needs : List ℕ) : Type 0 where
  pub rising : IsStrictlyIncreasing needs
  pub few : length needs ≤ MOST_NEEDS
  pub ends : (e : ℕ) → has e needs ≡ true → has_end m t e ≡ true

-- the attempts of a tile of the plane: at most 1,000,000, each with a centre in the tile's rectangle; a tile that is off has none
pub record CanAttempt (m : MapValue) (t : ℕ) (attempts : List Attempt) : Type 0 where
  pub inside : t < tiles_of m
  pub few : length attempts ≤ MOST_ATTEMPTS
  pub centres : (n : ℕ) (a : Attempt) → slice_get attempts n ≡ Some a → a.centre < m.w * m.h
  pub on : (attempts ≡ []) ⊎ (is_on m t ≡ true)

-- what the tile did in the attempts that are over, followed by what it has done so far for the attempt in hand
pub record IsUnderway (c : Common) (attempts : List Attempt) (tile : TileValue) (lists : ℕ → EndLists) : Type 0 where
  pub turns : List Turn
  pub each : AreTurns c tile.number turns
  pub made : AreAttempts c.map tile.number attempts turns
  pub records : tile.records ≡ records_in_turns turns
  pub abandoned : tile.abandoned ≡ abandoned_in_turns turns
  pub stamp : tile.stamp ≡ stamp_of turns
  pub unworn : Wearless turns
  pub needs : AreNeeds c.map tile.number tile.needs
  pub map : tile.cache.map ≡ c.map
  pub owner : tile.cache.tile ≡ tile.number
  pub can : CanAttempt c.map tile.number attempts
  pub left : tile.left ≡ drop tile.taken attempts
  pub cells : (s : Site) → is_held c.map tile.number s ≡ true → (is_refreshed tile.phase ≡ false) ⊎ (in_window c.map (centre tile) s ≡ false)
      → held_cell tile.cache s ≡ cells_of c.map c.start turns s
  pub hand : InPhase c attempts turns (tile_at tile lists) tile.phase

-- the turns are the same, or there is one more
abbrev pub Grows : List Turn → List Turn → Type 0
Grows old new = (new ≡ old) ⊎ ((x : Turn) × (new ≡ x ∷ old))

-- the tile is underway, after these turns or one more
abbrev pub Onward : Common → List Attempt → List Turn → TileAt → Type 0
Onward c attempts turns now = (v : IsUnderway c attempts now.tile now.lists) × Grows turns v.turns

-- from whatever start and attempts it was underway, it still is, with at most one turn more
abbrev pub GoesOn : MapValue → (WindowValue → ℕ → WindowValue) → TileAt → TileAt → Type 0
GoesOn m meaning old new = (start : Site → AtomValue) (attempts : List Attempt) (u : IsUnderway (common m meaning start) attempts old.tile old.lists) → Onward (common m meaning start) attempts u.turns new

-- in some way the tile is underway
abbrev pub IsSome : MapValue → (WindowValue → ℕ → WindowValue) → TileValue → (ℕ → EndLists) → Type 0
IsSome m meaning tile lists = (start : Site → AtomValue) × (attempts : List Attempt) × IsUnderway (common m meaning start) attempts tile lists

-- the tile was made with this map: with some meaning, and on some lists of its end, it is underway
abbrev pub IsMade : MapValue → TileValue → Type 0
IsMade m tile = (meaning : WindowValue → ℕ → WindowValue) × (lists : ℕ → EndLists) × IsSome m meaning tile lists

-- a tile that has only been made, for this start and these attempts
pub record IsFreshTile (m : MapValue) (t : ℕ) (start : Site → AtomValue) (attempts : List Attempt) (tile : TileValue) : Type 0 where
  pub number : tile.number ≡ t
  pub map : tile.cache.map ≡ m
  pub taken : tile.taken ≡ 0
  pub left : tile.left ≡ attempts
  -- it is underway on any board on whose edges of the tile nothing has happened
  pub underway : (meaning : WindowValue → ℕ → WindowValue) (lists : ℕ → EndLists) → AgreeOnEdges m t lists (λ e. end_lists [] []) → IsUnderway (common m meaning start) attempts tile lists

-- from whatever start and attempts it was underway, it still is, after any number of steps
abbrev pub GoesFar : MapValue → (WindowValue → ℕ → WindowValue) → TileAt → TileAt → Type 0
GoesFar m meaning old new = (start : Site → AtomValue) (attempts : List Attempt) → IsUnderway (common m meaning start) attempts old.tile old.lists → IsUnderway (common m meaning start) attempts new.tile new.lists

-- after steps in which it drew no attempt the tile is still underway, from whatever start and attempts it was
pub record GoesThrough (m : MapValue) (meaning : WindowValue → ℕ → WindowValue) (old new : TileAt) : Type 0 where
  pub far : GoesFar m meaning old new
  pub taken : new.tile.taken ≡ old.tile.taken
  pub number : new.tile.number ≡ old.tile.number

-- the same, whatever events make of windows
abbrev pub GoesAnyhow : MapValue → TileAt → TileAt → Type 0
GoesAnyhow m old new = (meaning : WindowValue → ℕ → WindowValue) → GoesThrough m meaning old new

-- on its end of the edges, and on the plane of its map, the tile goes on
abbrev pub KeepsOn : (WindowValue → ℕ → WindowValue) → TileValue → EndValue → TileValue → EndValue → Type 0
KeepsOn meaning old end new end' = GoesOn old.cache.map meaning (tile_at old end.lists) (tile_at new end'.lists)

-- the same after any number of steps
abbrev pub KeepsFar : (WindowValue → ℕ → WindowValue) → TileValue → EndValue → TileValue → EndValue → Type 0
KeepsFar meaning old end new end' = GoesFar old.cache.map meaning (tile_at old end.lists) (tile_at new end'.lists)

-- what the tile has made, with these lists of its ends
abbrev pub made_by : TileValue → (ℕ → EndLists) → Made
made_by tile lists = made_of tile.records tile.abandoned lists

-- in this phase the tile has played the attempts that it drew
abbrev pub IsPlayedAt : Phase → TileValue → Type 0
IsPlayedAt phase tile = (meaning : WindowValue → ℕ → WindowValue) (start : Site → AtomValue) (attempts : List Attempt) (lists : ℕ → EndLists)
    → IsUnderway (common tile.cache.map meaning start) attempts tile lists → tile.phase ≡ phase
    → HasPlayed (common tile.cache.map meaning start) tile.number (take tile.taken attempts) (made_by tile lists)

-- a finished tile has played all its attempts
abbrev pub IsPlayedAll : TileValue → Type 0
IsPlayedAll tile = (meaning : WindowValue → ℕ → WindowValue) (start : Site → AtomValue) (attempts : List Attempt) (lists : ℕ → EndLists)
    → IsUnderway (common tile.cache.map meaning start) attempts tile lists → tile.phase ≡ Finished
    → HasPlayed (common tile.cache.map meaning start) tile.number attempts (made_by tile lists)
