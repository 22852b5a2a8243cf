-- What a tile did, attempt by attempt (the newest turn first), and what follows for the lists of
-- its end of each edge.
use Rattle.std.specs.Prelude.{ℕ, ◌≡◌, ◌≤◌, ◌<◌, ◌+◌, ◌*◌, ◌/◌, ◌==◌, ◌⊎◌, max, if◌then◌else◌, List, [], ◌∷◌, ◌++◌, length, slice_get, Bool, true, false, Option, Some, None}
use Rattle.list_laws.specs.Options.{or_zero}
use Rattle.bit_field.specs.Atom.{AtomValue, empty_atom}
use Rattle.window_sites.specs.Window.{WindowValue, atom_at}
use Rattle.tile_map.specs.Plane.{Site, MapValue, site_in, in_window}
use Rattle.tile_map.specs.Edges.{window_site, needs_of, has_end, other_end}
use Rattle.cell_grid.specs.declared.record.Record.{Record}
use Rattle.draw_stream.specs.declared.attempt.Attempt.{Attempt}
use Rattle.event_journal.specs.declared.abandoned.Abandoned.{Abandoned}
use Rattle.edge_lock.specs.declared.history.Access.{Access}
use Rattle.edge_lock.specs.declared.history.Hold.{Hold}
use Rattle.edge_lock.specs.declared.history.Refusal.{Refusal}
use Rattle.edge_lock.specs.History.{found_value}
use Rattle.edge_lock.specs.EndLists.{EndLists, end_lists, refusal_of, hold_of, writes_nothing}
use Rattle.border_cache.specs.Cells.{CellValue, cell_value, newest}
use Rattle.border_cache.specs.Accesses.{last_write, is_read}
use Rattle.border_cache.specs.News.{WindowBorder, Covers, is_news, Finds, FindsCell, no_cell}
use Rattle.border_cache.specs.Published.{across, IsWordMarked, LeavesCell, IsPublished}
use Rattle.border_cache.specs.Windows.{has, end_at, border_at, seen_on, IsView}
use Rattle.border_cache.specs.Copies.{IsCentre}
use Rattle.tile_core.specs.Values.{event_site, given_up_site}
use Rattle.feast_base.specs.declared.limits.TheConstants.{LAST_STAMP}

-- what all tiles of a run have in common: the plane, what an event makes of a window, and the atoms at the start
pub record Common : Type 0 where
  pub map : MapValue
  pub meaning : WindowValue → ℕ → WindowValue
  pub start : Site → AtomValue

abbrev pub common : MapValue → (WindowValue → ℕ → WindowValue) → (Site → AtomValue) → Common
common map meaning start = record { map = map; meaning = meaning; start = start }

-- an attempt that became an event: its record, its hold on each needed edge, and the atoms that it left
pub record Won : Type 0 where
  pub note : Record
  pub hold : ℕ → Hold
  pub after : Site → AtomValue

-- an attempt that was given up: its entry, and its hold on each edge that it got before
pub record Lost : Type 0 where
  pub gone : Abandoned
  pub hold : ℕ → Hold

-- an attempt whose stamp would be too great, and its holds
pub record Worn : Type 0 where
  pub site : Site
  pub hold : ℕ → Hold

-- what became of an attempt
pub data Turn : Type 0 where
  Wins : Won → Turn
  Loses : Lost → Turn
  Wears : Worn → Turn

-- the edges before d in the list
abbrev pub before : ℕ → List ℕ → List ℕ
before d [] = []
before d (e ∷ es) = if e == d then [] else e ∷ before d es

-- the edges on which a turn has a hold
abbrev pub turn_edges : MapValue → ℕ → Turn → List ℕ
turn_edges m t (Wins w) = needs_of m t (event_site w.note)
turn_edges m t (Loses l) = before l.gone.edge (needs_of m t (given_up_site l.gone))
turn_edges m t (Wears w) = needs_of m t w.site

-- the hold of a turn on an edge
abbrev pub hold_at : Turn → ℕ → Hold
hold_at (Wins w) e = w.hold e
hold_at (Loses l) e = l.hold e
hold_at (Wears w) e = w.hold e

-- the refusals of a turn
abbrev pub refusals_at : Turn → ℕ → List Refusal
refusals_at (Wins w) e = []
refusals_at (Loses l) e = if e == l.gone.edge then refusal_of l.gone.attempt l.gone.holder_attempt ∷ [] else []
refusals_at (Wears w) e = []

-- the hold, open or given back
abbrev pub as_open : Bool → Hold → Hold
as_open is_open hold = hold_of hold.end hold.attempt hold.accesses is_open

-- a hold, if there is one
abbrev pub one_if : Bool → Hold → List Hold
one_if true hold = hold ∷ []
one_if false hold = []

-- the lists with one more hold, if there is one, and with more refusals
abbrev pub with_more : List Hold → List Refusal → EndLists → EndLists
with_more holds refusals lists = end_lists (lists.holds ++ holds) (lists.refusals ++ refusals)

-- at each edge of tile t, and at no other, the lists are known to be these
abbrev pub AgreeOnEdges : MapValue → ℕ → (ℕ → EndLists) → (ℕ → EndLists) → Type 0
AgreeOnEdges m t lists these = (e : ℕ) → has_end m t e ≡ true → lists e ≡ these e

-- the lists of the tile's end of an edge after these turns
abbrev pub lists_of : MapValue → ℕ → List Turn → ℕ → EndLists
lists_of m t [] e = end_lists [] []
lists_of m t (x ∷ xs) e = with_more (one_if (has e (turn_edges m t x)) (hold_at x e)) (refusals_at x e) (lists_of m t xs e)

-- the same while the holds of the last turn are given back: `is_left` says whether the one on an
-- edge is still open
abbrev pub lists_left : MapValue → ℕ → (ℕ → Bool) → Turn → List Turn → ℕ → EndLists
lists_left m t is_left x xs e = with_more (one_if (has e (turn_edges m t x)) (as_open (is_left e) (hold_at x e))) (refusals_at x e) (lists_of m t xs e)

-- the tile's own cell of a site after these turns
abbrev pub cells_of : MapValue → (Site → AtomValue) → List Turn → Site → CellValue
cells_of m start [] s = cell_value 0 (start s)
cells_of m start (Wins w ∷ xs) s = if in_window m (event_site w.note) s then cell_value w.note.stamp (w.after s) else cells_of m start xs s
cells_of m start (Loses l ∷ xs) s = cells_of m start xs s
cells_of m start (Wears w ∷ xs) s = cells_of m start xs s

-- the stamp of the tile's last event, or 0 if there is none
abbrev pub stamp_of : List Turn → ℕ
stamp_of [] = 0
stamp_of (Wins w ∷ xs) = w.note.stamp
stamp_of (Loses l ∷ xs) = stamp_of xs
stamp_of (Wears w ∷ xs) = stamp_of xs

-- the clock that a hold found
abbrev pub clock_in : List Access → ℕ
clock_in accesses = or_zero (found_value accesses 0)

-- the greatest of n and the values of f for these edges
abbrev pub greatest : ℕ → (ℕ → ℕ) → List ℕ → ℕ
greatest n f [] = n
greatest n f (e ∷ es) = greatest (max n (f e)) f es

-- what a hold of an event found and left on an edge, some of whose places the window covers; register 0 is the clock
pub record IsEventHold (b : WindowBorder) (cells : ℕ → CellValue) (stamp : ℕ) (accesses : List Access) : Type 0 where
  pub clock : Finds accesses 0
  pub stamped : last_write accesses 0 None ≡ Some stamp
  -- the news words of both ends were found; the covered places are left as no news for the own end, and as news for the other
  pub mine : (k : ℕ) → Covers b.places b.count k → IsWordMarked b false accesses (k / 64)
  pub theirs : (k : ℕ) → Covers b.places b.count k → IsWordMarked (across b) true accesses (k / 64)
  -- the cells that are news were found, and no other cell register was read
  pub finds : (k : ℕ) → Covers b.places b.count k → is_news b.sites b.end accesses k ≡ true → FindsCell accesses k
  pub reads_only : (k : ℕ) → k < b.sites → (is_read accesses (1 + 2 * k) ≡ true) ⊎ (is_read accesses (2 + 2 * k) ≡ true)
      → Covers b.places b.count k × (is_news b.sites b.end accesses k ≡ true)
  -- the event's cells are left
  pub leaves : (n k : ℕ) → n < b.count → b.places n ≡ Some k → LeavesCell accesses k (cells n)
  -- and nothing else is written
  pub spares : (register v : ℕ) → last_write accesses register None ≡ Some v → (register ≡ 0) ⊎ IsPublished b register

-- a hold of an end that was given back
pub record IsGiven (m : MapValue) (t e attempt : ℕ) (hold : Hold) : Type 0 where
  pub end : hold.end ≡ end_at m t e
  pub attempt_is : hold.attempt ≡ attempt
  pub closed : hold.is_open ≡ false

-- the atom that a window has for a site
abbrev pub atom_for : Option Site → (Site → AtomValue) → AtomValue
atom_for None look = empty_atom
atom_for (Some s) look = look s

-- the accesses of an event's hold on an edge
abbrev pub accesses_at : Won → ℕ → List Access
accesses_at w e = (w.hold e).accesses

-- the cell of site n of the window that an event leaves
abbrev pub cell_left : MapValue → Won → ℕ → CellValue
cell_left m w n = cell_value w.note.stamp (atom_for (window_site m (event_site w.note) n) w.after)

-- a tile's own cell of a site of a window, which may not be live
abbrev pub own_cell : Option Site → (Site → CellValue) → CellValue
own_cell None own = no_cell
own_cell (Some s) own = own s

-- the newest cell of site n of the window, of the tile's own and those found
abbrev pub newest_at : MapValue → ℕ → (Site → CellValue) → Site → (ℕ → List Access) → ℕ → CellValue
newest_at m t own c accesses n = newest (own_cell (window_site m c n) own) (seen_on m t c accesses n (needs_of m t c))

-- an attempt of tile t became an event, after those of the past
pub record IsWon (c : Common) (t : ℕ) (past : List Turn) (w : Won) : Type 0 where
  pub tile : w.note.tile ≡ t
  pub attempt : w.note.attempt ≡ length past
  pub centre : IsCentre c.map t (event_site w.note)
  pub given : (e : ℕ) → has e (turn_edges c.map t (Wins w)) ≡ true → IsGiven c.map t e (length past) (w.hold e)
  pub holds : (e : ℕ) → has e (turn_edges c.map t (Wins w)) ≡ true
      → IsEventHold (border_at c.map t (event_site w.note) e) (cell_left c.map w) w.note.stamp (accesses_at w e)
  pub stamp : w.note.stamp ≡ 1 + greatest (stamp_of past) (λ e. clock_in (accesses_at w e)) (turn_edges c.map t (Wins w))
  pub small : w.note.stamp ≤ LAST_STAMP
  pub view : WindowValue
  pub shows : IsView c.map (event_site w.note) (newest_at c.map t (cells_of c.map c.start past) (event_site w.note) (accesses_at w)) view
  pub acts : (n : ℕ) (s : Site) → n < 41 → window_site c.map (event_site w.note) n ≡ Some s → w.after s ≡ atom_at (c.meaning view w.note.seed) n

-- nothing was written
abbrev pub IsSilent : Hold → Type 0
IsSilent hold = writes_nothing hold.accesses ≡ true

-- an attempt was given up at the first needed edge that was held, and wrote nothing
pub record IsLost (m : MapValue) (t : ℕ) (past : List Turn) (l : Lost) : Type 0 where
  pub tile : l.gone.tile ≡ t
  pub attempt : l.gone.attempt ≡ length past
  pub centre : IsCentre m t (given_up_site l.gone)
  pub needed : has l.gone.edge (needs_of m t (given_up_site l.gone)) ≡ true
  pub holder : l.gone.holder ≡ other_end m t l.gone.edge
  pub given : (e : ℕ) → has e (turn_edges m t (Loses l)) ≡ true → IsGiven m t e (length past) (l.hold e) × IsSilent (l.hold e)

-- an attempt found a clock that is too great, and wrote nothing
pub record IsWorn (m : MapValue) (t : ℕ) (past : List Turn) (w : Worn) : Type 0 where
  pub centre : IsCentre m t w.site
  pub holds : (e : ℕ) → has e (turn_edges m t (Wears w)) ≡ true → ((w.hold e).end ≡ end_at m t e) × ((w.hold e).attempt ≡ length past) × IsSilent (w.hold e) × Finds (w.hold e).accesses 0
  pub high : LAST_STAMP ≤ greatest (stamp_of past) (λ e. clock_in (w.hold e).accesses) (turn_edges m t (Wears w))

-- the attempt became this, after those of the past
abbrev pub IsTurn : Common → ℕ → List Turn → Turn → Type 0
IsTurn c t past (Wins w) = IsWon c t past w
IsTurn c t past (Loses l) = IsLost c.map t past l
IsTurn c t past (Wears w) = IsWorn c.map t past w

-- no turn is a worn one
abbrev pub Wearless : List Turn → Type 0
Wearless [] = Unit {0}
Wearless (Wins w ∷ xs) = Wearless xs
Wearless (Loses l ∷ xs) = Wearless xs
Wearless (Wears w ∷ xs) = ⊥

-- each turn is as what came before it determines, and only the last may be a worn one
abbrev pub AreTurns : Common → ℕ → List Turn → Type 0
AreTurns c t [] = Unit {0}
AreTurns c t (x ∷ xs) = IsTurn c t xs x × Wearless xs × AreTurns c t xs

-- the events of the turns, in order
abbrev pub records_in_turns : List Turn → List Record
records_in_turns [] = []
records_in_turns (Wins w ∷ xs) = records_in_turns xs ++ w.note ∷ []
records_in_turns (Loses l ∷ xs) = records_in_turns xs
records_in_turns (Wears w ∷ xs) = records_in_turns xs

-- the abandoned attempts of the turns, in order
abbrev pub abandoned_in_turns : List Turn → List Abandoned
abandoned_in_turns [] = []
abandoned_in_turns (Wins w ∷ xs) = abandoned_in_turns xs
abandoned_in_turns (Loses l ∷ xs) = abandoned_in_turns xs ++ l.gone ∷ []
abandoned_in_turns (Wears w ∷ xs) = abandoned_in_turns xs

-- there is such an attempt, and it is one of tile t, with its centre at this site, and with this seed
pub record IsAttemptAt (m : MapValue) (t : ℕ) (drawn : Option Attempt) (s : Site) (seed : ℕ) : Type 0 where
  pub attempt : Attempt
  pub is : drawn ≡ Some attempt
  pub site_is : s ≡ site_in m t attempt.centre
  pub seed_is : seed ≡ attempt.seed

-- the turn is that of attempt n
abbrev pub IsAttemptOf : MapValue → ℕ → List Attempt → ℕ → Turn → Type 0
IsAttemptOf m t attempts n (Wins w) = IsAttemptAt m t (slice_get attempts n) (event_site w.note) w.note.seed
IsAttemptOf m t attempts n (Loses l) = (seed : ℕ) × IsAttemptAt m t (slice_get attempts n) (given_up_site l.gone) seed
IsAttemptOf m t attempts n (Wears w) = (seed : ℕ) × IsAttemptAt m t (slice_get attempts n) w.site seed

-- the turns are the tile's first attempts, in order
abbrev pub AreAttempts : MapValue → ℕ → List Attempt → List Turn → Type 0
AreAttempts m t attempts [] = Unit {0}
AreAttempts m t attempts (x ∷ xs) = IsAttemptOf m t attempts (length xs) x × AreAttempts m t attempts xs

-- what a tile has made: its events, its abandoned attempts, and the lists of its end of each edge
pub record Made : Type 0 where
  pub records : List Record
  pub abandoned : List Abandoned
  pub lists : ℕ → EndLists

abbrev pub made_of : List Record → List Abandoned → (ℕ → EndLists) → Made
made_of records abandoned lists = record { records = records; abandoned = abandoned; lists = lists }

-- What tile t made of these attempts. Each attempt is an event, is abandoned, or is a last one that wore the tile out; the
-- entries are those of the turns, and so are the holds and refusals of the tile's ends.
pub record HasPlayed (c : Common) (t : ℕ) (attempts : List Attempt) (did : Made) : Type 0 where
  pub turns : List Turn
  pub each : AreTurns c t turns
  pub all : length attempts ≡ length turns
  pub made : AreAttempts c.map t attempts turns
  pub records_are : did.records ≡ records_in_turns turns
  pub abandoned_are : did.abandoned ≡ abandoned_in_turns turns
  pub lists_are : AgreeOnEdges c.map t did.lists (lists_of c.map t turns)
