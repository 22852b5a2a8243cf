-- Stamping the rows of a window that may leave the plane, where no tile is off: what the tile reaches has all its live
-- sites then.
use Rattle.std.specs.Prelude.{ℕ, ◌≡◌, ◌+◌, ◌<◌, ◌⊎◌, length, slice_index_or}
use Rattle.tile_map.specs.declared.span.Area.{Area}
use Rattle.tile_map.specs.Plane.{Site}
use Rattle.tile_map.specs.Tables.{reach_of}
use Rattle.border_cache.specs.Cells.{CellValue}
use Rattle.border_cache.specs.News.{no_cell}
use Rattle.border_cache.specs.Windows.{IsNear}
use Rattle.border_cache.specs.Copies.{CacheValue}

-- the columns and rows that the tile of a copy reaches
abbrev pub reach : CacheValue → Area
reach v = reach_of v.map v.tile

-- the cell at a place of a copy
abbrev pub kept_at : CacheValue → ℕ → CellValue
kept_at v k = slice_index_or v.cells k no_cell

-- the sites of row j of the window at c that the tile reaches have the stamp; the rows are counted from the north
pub record StampsRow (c : Site) (j stamp : ℕ) (old new : CacheValue) : Type 0 where
  pub map : new.map ≡ old.map
  pub tile : new.tile ≡ old.tile
  pub count : length new.cells ≡ length old.cells
  pub done : (k u v : ℕ) → IsNear (reach old) c k u v → v + 4 ≡ c.y + j → (kept_at new k).stamp ≡ stamp
  pub kept : (k : ℕ) → (kept_at old k).stamp ≡ stamp → (kept_at new k).stamp ≡ stamp
  pub atoms : (k : ℕ) → (kept_at new k).atom ≡ (kept_at old k).atom
  pub others : (k : ℕ) → (kept_at new k ≡ kept_at old k) ⊎ ((u : ℕ) × (v : ℕ) × IsNear (reach old) c k u v)

-- those of the first j rows have it
pub record StampsRows (c : Site) (j stamp : ℕ) (old new : CacheValue) : Type 0 where
  pub map : new.map ≡ old.map
  pub tile : new.tile ≡ old.tile
  pub count : length new.cells ≡ length old.cells
  pub done : (k u v : ℕ) → IsNear (reach old) c k u v → v + 4 < c.y + j → (kept_at new k).stamp ≡ stamp
  pub atoms : (k : ℕ) → (kept_at new k).atom ≡ (kept_at old k).atom
  pub others : (k : ℕ) → (kept_at new k ≡ kept_at old k) ⊎ ((u : ℕ) × (v : ℕ) × IsNear (reach old) c k u v)
