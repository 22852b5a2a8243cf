-- What contracts see of the plain board, and how the acting tile's end moves it.
use Rattle.std.specs.Prelude.{◌≡◌, ℕ, ◌-◌, ◌<◌, ◌==◌, ◌||◌, Bool, true, List, [], length, map, slice_index_or, slice_set, Option, Some, None, if◌then◌else◌}
use Rattle.edge_lock.specs.Edges.{EdgeSize, registers_of}
use Rattle.edge_lock.specs.declared.board.Take.TheVariants.{Got, Busy}
use Rattle.edge_lock.specs.declared.history.Access.TheVariants.{Read, Write}
use Rattle.edge_lock.specs.declared.history.Hold.{Hold}
use Rattle.edge_lock.specs.History.{register_value, open_hold, site_count, IsAllowed}
use Rattle.edge_lock.specs.EndLists.{EndLists, IsFree, IsHeld, IsNew}
use Rattle.edge_lock.specs.EndValues.{EndValue, end_value}
use Rattle.edge_lock.specs.PlainEdges.{PlainEdgeValue, plain_edge_value, plain_view, own_lists, edge_after_try, edge_after_access, edge_after_give, IsKept, view_of}

-- a plain board: the tile whose end acts, and the edges
pub record PlainBoardValue : Type 0 where
  pub acting : ℕ
  pub edges : List PlainEdgeValue

abbrev pub plain_board_value : ℕ → List PlainEdgeValue → PlainBoardValue
plain_board_value acting edges = record { acting = acting; edges = edges }

abbrev pub no_edge : PlainEdgeValue
no_edge = plain_edge_value 0 0 (plain_view 0 [] [] [])

-- the edge of a number
abbrev pub edge_at : PlainBoardValue → ℕ → PlainEdgeValue
edge_at board edge = slice_index_or board.edges edge no_edge

-- which end of the edge the tile is
abbrev pub end_of : PlainEdgeValue → ℕ → ℕ
end_of edge tile = if edge.lower == tile then 0 else 1

-- whether the tile is an end of the edge
abbrev pub is_end : PlainEdgeValue → ℕ → Bool
is_end edge tile = (edge.lower == tile) || (edge.higher == tile)

-- by an edge's number: how many registers it has, or 0 if the acting tile has no such edge
abbrev pub registers_on : PlainBoardValue → ℕ → ℕ
registers_on board edge = if is_end (edge_at board edge) board.acting then (edge_at board edge).registers else 0

-- which end of the edge the acting tile is
abbrev pub end_on : PlainBoardValue → ℕ → ℕ
end_on board edge = end_of (edge_at board edge) board.acting

-- what a tile's end did on the edge
abbrev pub lists_of_tile : PlainBoardValue → ℕ → ℕ → EndLists
lists_of_tile board tile edge = own_lists (end_of (edge_at board edge) tile) (edge_at board edge)

-- what the acting tile's end did on the edge
abbrev pub lists_on : PlainBoardValue → ℕ → EndLists
lists_on board edge = own_lists (end_on board edge) (edge_at board edge)

-- the acting tile's end of the edges
abbrev pub acting_end : PlainBoardValue → EndValue
acting_end board = end_value board.acting (registers_on board) (end_on board) (lists_on board)

-- what the other end did on the edge
abbrev pub other_lists_on : PlainBoardValue → ℕ → EndLists
other_lists_on board edge = own_lists (1 - end_on board edge) (edge_at board edge)

-- a call of the board on one edge
pub data Call : Type 0 where
  tries : ℕ → Call
  reads : ℕ → Call
  writes : ℕ → ℕ → Call
  gives : Call

-- when an end may make the call
abbrev pub MayCall : ℕ → Call → PlainEdgeValue → Type 0
MayCall end (tries attempt) edge = IsFree (own_lists end edge) × IsNew attempt (own_lists end edge)
MayCall end (reads register) edge = IsHeld (own_lists end edge) × (register < edge.registers)
MayCall end (writes register value) edge = IsHeld (own_lists end edge) × (register < edge.registers) × IsAllowed (site_count edge.registers) register value
MayCall end gives edge = IsHeld (own_lists end edge)

-- a try gets the edge exactly when nobody has it; otherwise the open hold refuses it
abbrev pub tried_at : Option Hold → ℕ → ℕ → PlainEdgeValue → PlainEdgeValue
tried_at None end attempt edge = edge_after_try end attempt Got edge
tried_at (Some hold) end attempt edge = edge_after_try end attempt (Busy hold.attempt) edge

-- the edge after the call of an end
abbrev pub effect_of : ℕ → Call → PlainEdgeValue → PlainEdgeValue
effect_of end (tries attempt) edge = tried_at (open_hold edge.holds) end attempt edge
effect_of end (reads register) edge = edge_after_access (Read register (register_value edge.holds register)) edge
effect_of end (writes register value) edge = edge_after_access (Write register value) edge
effect_of end gives edge = edge_after_give edge

-- The new board comes from the old one by this call of the acting tile's end on this edge. All
-- other edges stay as they are, and so does the acting tile.
pub record IsCall (old : PlainBoardValue) (edge : ℕ) (call : Call) (new : PlainBoardValue) : Type 0 where
  pub inside : edge < length old.edges
  pub ours : is_end (edge_at old edge) old.acting ≡ true
  pub can : MayCall (end_on old edge) call (edge_at old edge)
  pub is : new ≡ plain_board_value old.acting (slice_set old.edges edge (effect_of (end_on old edge) call (edge_at old edge)))

-- some list of calls by the acting tile's end leads from the one board to the other
pub data Moved : PlainBoardValue → PlainBoardValue → Type 0 where
  stays : (board : PlainBoardValue) → Moved board board
  goes : (old between new : PlainBoardValue) (edge : ℕ) (call : Call) → IsCall old edge call between → Moved between new → Moved old new

pub moved_on : (old between new : PlainBoardValue) → Moved old between → Moved between new → Moved old new
moved_on old between new (stays _) later = later
moved_on old between new (goes _ next _ edge call one rest) later = goes old next new edge call one (moved_on next between new rest later)

-- the tiles and the number of shared sites of an edge
abbrev pub size_of : PlainEdgeValue → EdgeSize
size_of edge = record { lower = edge.lower; higher = edge.higher; sites = site_count edge.registers }

-- the list of edges that the board was made from
abbrev pub sizes_of_board : PlainBoardValue → List EdgeSize
sizes_of_board board = map size_of board.edges

-- an edge of this size on which nothing has happened
abbrev pub untouched_edge : EdgeSize → PlainEdgeValue
untouched_edge size = plain_edge_value size.lower size.higher (plain_view (registers_of size.sites) [] [] [])

-- the edge keeps one history, with the refusals of both ends
abbrev pub IsKeptEdge : PlainEdgeValue → Type 0
IsKeptEdge edge = IsKept (view_of edge)
