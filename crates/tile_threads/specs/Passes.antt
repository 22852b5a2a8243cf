-- The edges of a plane and the passes of its tiles: as they are made, and as they are closed.
use Rattle.std.specs.Prelude.{ℕ, ◌≡◌, ◌<◌, ◌≤◌, ◌+◌, true, List, [], ◌∷◌, ◌++◌, length, map, filter, slice_index_or, slice_set, All, if◌then◌else◌}
use Rattle.std.specs.List.{range_with_len}
use Rattle.edge_lock.specs.Edges.{registers_of}
use Rattle.tile_map.specs.Plane.{MapValue, tiles_of}
use Rattle.tile_map.specs.Edges.{pairs_of, low_end, high_end, has_end}
use Rattle.edge_lock.specs.EndLists.{EndLists, end_lists, is_last_open, IsFree, after_give}
use Rattle.edge_lock.specs.Passes.{EdgeValue, edge_value, PassValue, ClosedValue, IsClosed}
use Rattle.edge_lock.specs.SharedEnds.{EdgeAndEnd, edge_and_end, pass_lists}
use Rattle.border_cache.specs.Windows.{end_at, sites_on}
use Rattle.serial_order.specs.Words.{closed_at}

-- no edge
abbrev pub no_edge : EdgeValue
no_edge = edge_value (record { words = 0; slots = 0; views_name = 0; atom = 0; block = 0; offset = 0; slot_names = [] }) 0 0

-- the edge of a number
abbrev pub edge_of : List EdgeValue → ℕ → EdgeValue
edge_of edges e = slice_index_or edges e no_edge

-- the passes of a tile
abbrev pub passes_of : List (List PassValue) → ℕ → List PassValue
passes_of all t = slice_index_or all t []

-- tile t got one more pass, after its others
abbrev pub one_pass_more : List (List PassValue) → ℕ → PassValue → List (List PassValue)
one_pass_more all t pass = slice_set all t (passes_of all t ++ pass ∷ [])

-- the edge and the end that tile t's pass of edge e belongs to
abbrev pub right_to : MapValue → List EdgeValue → ℕ → ℕ → EdgeAndEnd
right_to m edges t e = record { of = edge_of edges e; end = end_at m t e }

-- each edge is at its number and has the registers of its shared sites
pub record AreEdges (m : MapValue) (edges : List EdgeValue) : Type 0 where
  pub numbers : (e : ℕ) → e < length edges → (edge_of edges e).number ≡ e
  pub registers : (e : ℕ) → e < length edges → (edge_of edges e).registers ≡ registers_of (sites_on m e)

-- of the n edges from `first` on, those of tile t
abbrev pub own_edges : MapValue → ℕ → ℕ → ℕ → List ℕ
own_edges m t first n = filter (has_end m t) (range_with_len first n)

-- these are the passes of tile t of the edges with these numbers, in their order
abbrev pub HasPasses : MapValue → List EdgeValue → ℕ → List ℕ → List PassValue → Type 0
HasPasses m edges t numbers passes = map edge_and_end passes ≡ map (right_to m edges t) numbers

-- nothing was done with the pass
abbrev pub IsUnused : PassValue → Type 0
IsUnused pass = pass.lists ≡ end_lists [] []

-- the first n edges of the plane were made, and each tile has the passes of its edges among them, unused
pub record AreEdgesMade (m : MapValue) (n : ℕ) (edges : List EdgeValue) (passes : List (List PassValue)) : Type 0 where
  pub known : length edges ≡ n
  pub edges_are : AreEdges m edges
  pub tiles : length passes ≡ tiles_of m
  pub each : (t : ℕ) → t < tiles_of m → HasPasses m edges t (own_edges m t 0 n) (passes_of passes t)
  pub unused : (t : ℕ) → t < tiles_of m → All IsUnused (passes_of passes t)

-- the first pass of a tile was taken away
pub record TakesFirst (old new : List (List PassValue)) (t : ℕ) (pass : PassValue) : Type 0 where
  pub rest : List PassValue
  pub was : passes_of old t ≡ pass ∷ rest
  pub is : new ≡ slice_set old t rest

-- what an end did on an edge, once it has given the edge back, if it had it
abbrev pub let_go : EndLists → EndLists
let_go lists = if is_last_open lists.holds then after_give lists else lists

-- the edges that tiles share, and what each tile's end did on each of them
pub record SharedEdges : Type 0 where
  pub edges : List EdgeValue
  pub lists : ℕ → ℕ → EndLists

abbrev pub shared_edges : List EdgeValue → (ℕ → ℕ → EndLists) → SharedEdges
shared_edges edges lists = record { edges = edges; lists = lists }

-- The n edges from `first` on are not yet closed: each tile has the passes of its edges among them, with these lists, on which
-- no tile has an edge.
pub record AreLeft (m : MapValue) (s : SharedEdges) (first n : ℕ) (passes : List (List PassValue)) : Type 0 where
  pub whole : first + n ≡ length (pairs_of m)
  pub known : length s.edges ≡ length (pairs_of m)
  pub edges_are : AreEdges m s.edges
  pub free : (t e : ℕ) → t < tiles_of m → has_end m t e ≡ true → IsFree (s.lists t e)
  pub tiles : length passes ≡ tiles_of m
  pub each : (t : ℕ) → t < tiles_of m → HasPasses m s.edges t (own_edges m t first n) (passes_of passes t)
  pub lists_are : (t e : ℕ) → t < tiles_of m → first ≤ e → has_end m t e ≡ true → pass_lists (passes_of passes t) e ≡ s.lists t e

-- this holds of any shared edges of which this is the next to be closed, with n more after it
abbrev pub WhereNext : MapValue → ℕ → EdgeValue → List (List PassValue) → (SharedEdges → ℕ → Type 0) → Type 0
WhereNext m number edge passes P = (s : SharedEdges) (n : ℕ) → edge ≡ edge_of s.edges number → AreLeft m s number (n + 1) passes → P s n

-- this holds of whatever the ends did on these n edges, if none of them is closed
abbrev pub WhereAllLeft : MapValue → List EdgeValue → ℕ → List (List PassValue) → ((ℕ → ℕ → EndLists) → Type 0) → Type 0
WhereAllLeft m edges n passes P = (lists : ℕ → ℕ → EndLists) → AreLeft m (shared_edges edges lists) 0 n passes → P lists

-- edge e was closed with what the ends of its two tiles did there
pub record IsClosedEdge (m : MapValue) (lists : ℕ → ℕ → EndLists) (e : ℕ) (closed : ClosedValue) : Type 0 where
  pub registers : closed.registers ≡ registers_of (sites_on m e)
  pub history : IsClosed closed (lists (low_end m e) e) (lists (high_end m e) e)

-- all edges of the plane were closed
pub record AreClosed (m : MapValue) (lists : ℕ → ℕ → EndLists) (closed : List ClosedValue) : Type 0 where
  pub known : length closed ≡ length (pairs_of m)
  pub each : (e : ℕ) → e < length closed → IsClosedEdge m lists e (closed_at closed e)
