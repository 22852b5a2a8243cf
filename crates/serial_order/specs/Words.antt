-- The words of all edges: of a plain board, of closed edges, and what they are to the cells of a site.
use Rattle.std.specs.Prelude.{ℕ, ◌≡◌, ◌<◌, List, [], length, map, slice_index_or, Option}
use Rattle.edge_lock.specs.Edges.{registers_of}
use Rattle.bit_field.specs.Atom.{AtomValue}
use Rattle.tile_map.specs.Plane.{Site, MapValue}
use Rattle.tile_map.specs.Edges.{pairs_of, edges_at}
use Rattle.edge_lock.specs.History.{IsEdgeHistory}
use Rattle.edge_lock.specs.PlainEdges.{PlainEdgeValue}
use Rattle.edge_lock.specs.PlainBoard.{PlainBoardValue, edge_at}
use Rattle.edge_lock.specs.Passes.{ClosedValue}
use Rattle.border_cache.specs.Cells.{CellValue, cell_value}
use Rattle.border_cache.specs.Windows.{edge_place, sites_on}
use Rattle.serial_order.specs.Scene.{EdgeHistory, history_at, registers_at}
use Rattle.serial_order.specs.Settled.{cell_in_registers, edge_cells, settled_cell}

abbrev pub plain_history : PlainEdgeValue → EdgeHistory
plain_history edge = record { holds = edge.holds; low = edge.low; high = edge.high }

abbrev pub closed_history : ClosedValue → EdgeHistory
closed_history edge = record { holds = edge.holds; low = edge.low; high = edge.high }

abbrev pub histories_on : PlainBoardValue → List EdgeHistory
histories_on board = map plain_history board.edges

-- how many registers an edge of a board has
abbrev pub counts_on : PlainBoardValue → ℕ → ℕ
counts_on board e = (edge_at board e).registers

abbrev pub no_closed : ClosedValue
no_closed = record { registers = 0; holds = []; low = []; high = [] }

abbrev pub closed_at : List ClosedValue → ℕ → ClosedValue
closed_at edges e = slice_index_or edges e no_closed

abbrev pub closed_histories : List ClosedValue → List EdgeHistory
closed_histories edges = map closed_history edges

abbrev pub closed_counts : List ClosedValue → ℕ → ℕ
closed_counts edges e = (closed_at edges e).registers

-- what contracts see of the words of all edges: the history of each, and how many registers it has
pub record WordsValue : Type 0 where
  pub histories : List EdgeHistory
  pub counts : ℕ → ℕ

abbrev pub plain_words : PlainBoardValue → WordsValue
plain_words board = record { histories = histories_on board; counts = counts_on board }

abbrev pub closed_words : List ClosedValue → WordsValue
closed_words edges = record { histories = closed_histories edges; counts = closed_counts edges }

-- the words of all edges of a plane: each edge has one history, and the registers of its shared sites
pub record AreEdgeWords (m : MapValue) (w : WordsValue) : Type 0 where
  pub known : length w.histories ≡ length (pairs_of m)
  pub registers : (e : ℕ) → e < length (pairs_of m) → w.counts e ≡ registers_of (sites_on m e)
  pub histories : (e : ℕ) → e < length w.histories → IsEdgeHistory (sites_on m e) (history_at w.histories e).holds (history_at w.histories e).low (history_at w.histories e).high

-- a stamp with an atom, as a cell
abbrev pub as_cell : ℕ × AtomValue → CellValue
as_cell own = cell_value own.0 own.1

-- the cell that edge e has of a site, if it shares the site
abbrev pub cell_on : MapValue → List EdgeHistory → ℕ → Site → Option CellValue
cell_on m edges e s = cell_in_registers (registers_at edges e) (edge_place m e s)

-- the cells that tile t's edges have of a site
abbrev pub cells_on : MapValue → List EdgeHistory → ℕ → Site → List CellValue
cells_on m edges t s = edge_cells m (registers_at edges) (edges_at m t) s

-- the newest of tile t's own cell of a site and those that its edges have
abbrev pub settled_on : MapValue → List EdgeHistory → ℕ → (Site → CellValue) → Site → CellValue
settled_on m edges t own s = settled_cell m (registers_at edges) own (edges_at m t) s
