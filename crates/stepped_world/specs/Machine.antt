-- The stepped machine: one flat grid, what each tile is doing and its clock, who has each edge and its clock, and the entries in the order of time.
-- It knows no tile's copy of sites and no register.
use Rattle.std.specs.Prelude.{ℕ, zero, suc, ◌+◌, ◌*◌, List, [], ◌∷◌, ◌++◌, Option, Some, None, ◌==◌, if◌then◌else◌, length}
use Rattle.std.specs.List.{range_with_len}
use Rattle.window_sites.specs.Window.{WindowValue}
use Rattle.tile_map.specs.Plane.{Site, MapValue, tiles_of, site_in}
use Rattle.tile_map.specs.Edges.{needs_of}
use Rattle.cell_grid.specs.declared.record.Record.{Record}
use Rattle.cell_grid.specs.Grid.{GridValue, event}
use Rattle.draw_stream.specs.declared.attempt.Attempt.{Attempt}
use Rattle.draw_stream.specs.Plans.{PlanValue, attempts}
use Rattle.event_journal.specs.declared.abandoned.Abandoned.{Abandoned}
use Rattle.border_cache.specs.Windows.{has}
use Rattle.tile_core.specs.Turns.{greatest}

-- the attempt in hand: its number, its site and its seed
pub record Hand : Type 0 where
  pub attempt : ℕ
  pub site : Site
  pub seed : ℕ

-- What a tile is doing: what its next step does. Locking has the edges that the attempt got, the
-- one that is tried next, and those after it; Giving (after an event) and Backing (after a refusal)
-- have the edge that is freed next, and those after it.
pub data Doing : Type 0 where
  Drawing Done : Doing
  Locking : Hand → List ℕ → ℕ → List ℕ → Doing
  Refreshing Behaving Writing : Hand → Doing
  Giving Backing : ℕ → List ℕ → Doing

-- a tile: what it is doing, the attempts that it has not drawn, how many it drew, and the stamp of its last event
pub record TileState : Type 0 where
  pub doing : Doing
  pub left : List Attempt
  pub taken : ℕ
  pub clock : ℕ

-- an edge: the stamp of the last event that needed it, and the tile and the attempt that have it, if one has
pub record EdgeState : Type 0 where
  pub clock : ℕ
  pub holder : Option (ℕ × ℕ)

-- all tiles and all edges, by their numbers
pub record Machine : Type 0 where
  pub grid : GridValue
  pub tile : ℕ → TileState
  pub edge : ℕ → EdgeState
  pub records : List Record
  pub abandoned : List Abandoned

-- f, except for this value at k
abbrev pub at : {A : Type 0} → (ℕ → A) → ℕ → A → ℕ → A
at f k a j = if j == k then a else f j

-- what a tile does when an attempt is over
abbrev pub next_draw : List Attempt → Doing
next_draw [] = Done
next_draw (attempt ∷ others) = Drawing

-- what an attempt does that has got some edges and needs these too
abbrev pub next_lock : Hand → List ℕ → List ℕ → Doing
next_lock hand had [] = Refreshing hand
next_lock hand had (e ∷ es) = Locking hand had e es

-- what a tile does that has these edges to give after an event
abbrev pub next_give : List ℕ → List Attempt → Doing
next_give [] left = next_draw left
next_give (e ∷ es) left = Giving e es

-- what a tile does that has these edges to give back after a refusal
abbrev pub next_back : List ℕ → List Attempt → Doing
next_back [] left = next_draw left
next_back (e ∷ es) left = Backing e es

-- tile t does this next
abbrev pub does : ℕ → Doing → Machine → Machine
does t doing s = record s { tile = at s.tile t (record (s.tile t) { doing = doing }) }

-- this tile and attempt have edge e, or nobody has it
abbrev pub is_held_by : ℕ → Option (ℕ × ℕ) → Machine → Machine
is_held_by e holder s = record s { edge = at s.edge e (record (s.edge e) { holder = holder }) }

-- attempt number i of tile t
abbrev pub hand_of : MapValue → ℕ → ℕ → Attempt → Hand
hand_of m t i attempt = record { attempt = i; site = site_in m t attempt.centre; seed = attempt.seed }

abbrev pub record_of : ℕ → Hand → ℕ → Record
record_of t hand stamp = record { stamp = stamp; tile = t; attempt = hand.attempt; x = hand.site.x; y = hand.site.y; seed = hand.seed }

abbrev pub entry_of : ℕ → Hand → ℕ → ℕ × ℕ → Abandoned
entry_of t hand e holder = record { tile = t; attempt = hand.attempt; x = hand.site.x; y = hand.site.y; edge = e; holder = holder.0; holder_attempt = holder.1 }

-- Draw: the next attempt is in hand
abbrev pub tile_after_draw : MapValue → ℕ → Attempt → List Attempt → TileState → TileState
tile_after_draw m t attempt others tile = record tile { doing = next_lock (hand_of m t tile.taken attempt) [] (needs_of m t (site_in m t attempt.centre)); left = others; taken = tile.taken + 1 }

abbrev pub draw : MapValue → ℕ → List Attempt → Machine → Machine
draw m t [] s = does t Done s
draw m t (attempt ∷ others) s = record s { tile = at s.tile t (tile_after_draw m t attempt others (s.tile t)) }

-- an attempt that gets its edges one by one: those that it has, the one that is tried next, and those after it
pub record Wanted : Type 0 where
  pub hand : Hand
  pub had : List ℕ
  pub edge : ℕ
  pub rest : List ℕ

abbrev pub want_edge : Hand → List ℕ → ℕ → List ℕ → Wanted
want_edge hand had edge rest = record { hand = hand; had = had; edge = edge; rest = rest }

-- Lock: the attempt has the edge if nobody had it; otherwise it is abandoned, which notes who has
-- it
abbrev pub lock : ℕ → Wanted → Option (ℕ × ℕ) → Machine → Machine
lock t w None s = does t (next_lock w.hand (w.had ++ w.edge ∷ []) w.rest) (is_held_by w.edge (Some (t, w.hand.attempt)) s)
lock t w (Some holder) s = does t (next_back w.had (s.tile t).left) (record s { abandoned = s.abandoned ++ entry_of t w.hand w.edge holder ∷ [] })

-- the stamp of an event now: one more than the greatest clock of its tile and the edges that it needs
abbrev pub next_stamp : MapValue → ℕ → Hand → Machine → ℕ
next_stamp m t hand s = 1 + greatest (s.tile t).clock (λ e. (s.edge e).clock) (needs_of m t hand.site)

-- these edges have this clock
abbrev pub stamp_edges : List ℕ → ℕ → (ℕ → EdgeState) → ℕ → EdgeState
stamp_edges edges stamp edge e = if has e edges then record (edge e) { clock = stamp } else edge e

-- Write: the event takes place on the grid, its record is made, and its stamp becomes the clock of its tile and its edges
abbrev pub write : MapValue → (WindowValue → ℕ → WindowValue) → ℕ → Hand → ℕ → Machine → Machine
write m meaning t hand stamp s = record s {
  grid = event meaning s.grid hand.site.x hand.site.y hand.seed;
  tile = at s.tile t (record (s.tile t) { doing = next_give (needs_of m t hand.site) (s.tile t).left; clock = stamp });
  edge = stamp_edges (needs_of m t hand.site) stamp s.edge;
  records = s.records ++ record_of t hand stamp ∷ [];
}

-- one step of tile t, which is doing this
abbrev pub step_in : MapValue → (WindowValue → ℕ → WindowValue) → ℕ → Machine → Doing → Machine
step_in m meaning t s Drawing = draw m t (s.tile t).left s
step_in m meaning t s Done = s
step_in m meaning t s (Locking hand had e es) = lock t (want_edge hand had e es) (s.edge e).holder s
step_in m meaning t s (Refreshing hand) = does t (Behaving hand) s
step_in m meaning t s (Behaving hand) = does t (Writing hand) s
step_in m meaning t s (Writing hand) = write m meaning t hand (next_stamp m t hand s) s
step_in m meaning t s (Giving e es) = does t (next_give es (s.tile t).left) (is_held_by e None s)
step_in m meaning t s (Backing e es) = does t (next_back es (s.tile t).left) (is_held_by e None s)

abbrev pub step : MapValue → (WindowValue → ℕ → WindowValue) → ℕ → Machine → Machine
step m meaning t s = step_in m meaning t s (s.tile t).doing

-- a step of each of these tiles, one after another
abbrev pub steps : MapValue → (WindowValue → ℕ → WindowValue) → List ℕ → Machine → Machine
steps m meaning [] s = s
steps m meaning (t ∷ ts) s = steps m meaning ts (step m meaning t s)

-- this many steps of one tile
abbrev pub steps_of : MapValue → (WindowValue → ℕ → WindowValue) → ℕ → ℕ → Machine → Machine
steps_of m meaning t zero s = s
steps_of m meaning t (suc n) s = steps_of m meaning t n (step m meaning t s)

-- how many steps the attempts that tile t has not drawn take at most
abbrev pub steps_for : MapValue → ℕ → List Attempt → ℕ
steps_for m t [] = 0
steps_for m t (attempt ∷ others) = 3 * length (needs_of m t (site_in m t attempt.centre)) + 4 + steps_for m t others

-- and what it is doing now
abbrev pub steps_to_end : MapValue → ℕ → Doing → ℕ
steps_to_end m t Drawing = 1
steps_to_end m t Done = 0
steps_to_end m t (Locking hand had e es) = 2 * suc (length es) + length had + 4 + length (needs_of m t hand.site)
steps_to_end m t (Refreshing hand) = 4 + length (needs_of m t hand.site)
steps_to_end m t (Behaving hand) = 3 + length (needs_of m t hand.site)
steps_to_end m t (Writing hand) = 2 + length (needs_of m t hand.site)
steps_to_end m t (Giving e es) = 2 + length es
steps_to_end m t (Backing e es) = 2 + length es

-- tile t steps until it is done: once it is, further steps change nothing
abbrev pub most_steps : MapValue → ℕ → TileState → ℕ
most_steps m t tile = steps_to_end m t tile.doing + steps_for m t tile.left

abbrev pub finish_tile : MapValue → (WindowValue → ℕ → WindowValue) → ℕ → Machine → Machine
finish_tile m meaning t s = steps_of m meaning t (most_steps m t (s.tile t)) s

-- one tile after another steps until it is done
abbrev pub finish : MapValue → (WindowValue → ℕ → WindowValue) → List ℕ → Machine → Machine
finish m meaning [] s = s
finish m meaning (t ∷ ts) s = finish m meaning ts (finish_tile m meaning t s)

-- at first nobody has an edge, and all clocks are 0
abbrev pub first_machine : GridValue → PlanValue → Machine
first_machine start plan = record {
  grid = start;
  tile = λ t. record { doing = next_draw (attempts plan t); left = attempts plan t; taken = 0; clock = 0 };
  edge = λ e. record { clock = 0; holder = None };
  records = [];
  abandoned = [];
}

-- the machine after the steps of this list of tiles, and then those of tile 0 until it is done, those of tile 1, and so on
abbrev pub stepped : MapValue → (WindowValue → ℕ → WindowValue) → GridValue → PlanValue → List ℕ → Machine
stepped m meaning start plan order = finish m meaning (range_with_len 0 (tiles_of m)) (steps m meaning order (first_machine start plan))
