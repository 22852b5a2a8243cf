-- Windows that lie wholly inside a rectangle of cells, which are kept row by row: `width` of them in a row, and the
-- window's nine rows and nine columns start at place `low`.
use Rattle.std.specs.Prelude.{ℕ, ◌≡◌, ◌≢◌, ◌+◌, ◌<◌, ◌≤◌, ◌⊎◌, List, length, slice_index, slice_index_or}
use Rattle.window_sites.specs.Inner.{inner_place}
use Rattle.border_cache.specs.Cells.{CellValue, cell_value}
use Rattle.border_cache.specs.News.{no_cell}

-- no site of the window is at place k
abbrev pub IsOutside : ℕ → ℕ → ℕ → Type 0
IsOutside low width k = (n : ℕ) → n < 41 → inner_place low width n ≢ k

-- the cells of the window are these, by the numbers of its sites, and all others stay
pub record GivesWhole (low width : ℕ) (cells : ℕ → CellValue) (old new : List CellValue) : Type 0 where
  pub count : length new ≡ length old
  pub done : (n : ℕ) → n < 41 → slice_index_or new (inner_place low width n) no_cell ≡ cells n
  pub others : (k : ℕ) → IsOutside low width k → slice_index_or new k no_cell ≡ slice_index_or old k no_cell

-- the cells of the window with their own atoms and another stamp, by the numbers of its sites
abbrev pub stamped_at : List CellValue → ℕ → ℕ → ℕ → ℕ → CellValue
stamped_at cells low width stamp n = cell_value stamp (slice_index_or cells (inner_place low width n) no_cell).atom

-- `count` stamps from place `first` on are this one afterwards, and all others stay
pub record StampsRun (first count stamp : ℕ) (old new : List ℕ) : Type 0 where
  pub done : (k : ℕ) → first ≤ k → k < first + count → slice_index new k ≡ stamp
  pub others : (k : ℕ) → (k < first) ⊎ (first + count ≤ k) → slice_index new k ≡ slice_index old k

-- the stamps of the window are this one afterwards, and all others stay
pub record AreStamped (low width stamp : ℕ) (old new : List ℕ) : Type 0 where
  pub done : (n : ℕ) → n < 41 → slice_index new (inner_place low width n) ≡ stamp
  pub others : (k : ℕ) → IsOutside low width k → slice_index new k ≡ slice_index old k

-- `count` cells from place `first` on have this stamp afterwards and keep their atoms, and all others stay
pub record StampsCells (first count stamp : ℕ) (old new : List CellValue) : Type 0 where
  pub count_is : length new ≡ length old
  pub done : (k : ℕ) → first ≤ k → k < first + count → slice_index_or new k no_cell ≡ cell_value stamp (slice_index_or old k no_cell).atom
  pub others : (k : ℕ) → (k < first) ⊎ (first + count ≤ k) → slice_index_or new k no_cell ≡ slice_index_or old k no_cell
