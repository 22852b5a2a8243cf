-- Reading and marking the rows of a window that may leave the plane, where no tile is off: what the tile reaches has all
-- its live sites then.
use Rattle.std.specs.Prelude.{ℕ, ◌≡◌, ◌+◌, ◌<◌, ◌≤◌, ◌⊎◌, true, false, length, Some}
use Rattle.bit_field.specs.Atom.{empty_atom}
use Rattle.window_sites.specs.Sites.{offset_of}
use Rattle.window_sites.specs.Inner.{from_low}
use Rattle.window_sites.specs.Window.{WindowValue, atom_at, live_at}
use Rattle.tile_map.specs.Plane.{Site, MapValue, is_held}
use Rattle.tile_map.specs.Edges.{window_site}
use Rattle.border_cache.specs.declared.reached.Shown.{Shown}
use Rattle.border_cache.specs.Cells.{CellValue, cell_value}
use Rattle.border_cache.specs.Windows.{is_shown}
use Rattle.border_cache.specs.Copies.{CacheValue, held_cell, window_cells}

-- site n of a window is in this row and this column, which are counted from the north and from the west
pub record IsNumbered (row column n : ℕ) : Type 0 where
  pub small : n ≤ 40
  pub row_is : from_low (offset_of n).1 ≡ row
  pub column_is : from_low (offset_of n).0 ≡ column

-- a site is in row j of the window at c; the rows are counted from the north
abbrev pub IsInRowAt : Site → ℕ → Site → Type 0
IsInRowAt c j s = s.y + 4 ≡ c.y + j

-- a site is in a row before row j
abbrev pub IsAboveRow : Site → ℕ → Site → Type 0
IsAboveRow c j s = s.y + 4 < c.y + j

-- the cells of an event's window and its stamp
abbrev pub event_cells : WindowValue → ℕ → ℕ → CellValue
event_cells window stamp n = cell_value stamp (atom_at window n)

-- a cell is that of a site of the window at c
abbrev pub IsGiven : MapValue → Site → (ℕ → CellValue) → Site → CellValue → Type 0
IsGiven m c cells s cell = (n : ℕ) × (n < 41) × (window_site m c n ≡ Some s) × (cell ≡ cells n)

-- the live sites of the window at c of which `at` holds have these cells, by their numbers, and each other site of the
-- tile has its own, or its cell of these
pub record GivesAt (at : Site → Type 0) (c : Site) (cells : ℕ → CellValue) (old new : CacheValue) : Type 0 where
  pub map : new.map ≡ old.map
  pub tile : new.tile ≡ old.tile
  pub done : (n : ℕ) (s : Site) → n < 41 → window_site old.map c n ≡ Some s → at s → held_cell new s ≡ cells n
  pub others : (s : Site) → is_held old.map old.tile s ≡ true → (held_cell new s ≡ held_cell old s) ⊎ IsGiven old.map c cells s (held_cell new s)

-- a window that is read
abbrev pub window_of : Shown → WindowValue
window_of shown = record { atoms = shown.atoms; live = shown.live }

-- site n is not live so far, and empty
abbrev pub IsHidden : WindowValue → ℕ → Type 0
IsHidden w n = (live_at w n ≡ false) × (atom_at w n ≡ empty_atom)

-- site n is live, and shows the atom of its cell
abbrev pub ShowsCell : CacheValue → Site → WindowValue → ℕ → Type 0
ShowsCell v c w n = (live_at w n ≡ true) × (is_shown v.map c n ≡ true) × (atom_at w n ≡ (window_cells v c n).atom)

-- a window that is read shows the live sites of the window at c of which `at` holds, and perhaps others
pub record ShowsAt (at : Site → Type 0) (v : CacheValue) (c : Site) (w : WindowValue) : Type 0 where
  pub atoms : length w.atoms ≡ 41
  pub live : length w.live ≡ 41
  pub done : (n : ℕ) (s : Site) → n < 41 → window_site v.map c n ≡ Some s → at s → live_at w n ≡ true
  pub each : (n : ℕ) → n < 41 → IsHidden w n ⊎ ShowsCell v c w n
