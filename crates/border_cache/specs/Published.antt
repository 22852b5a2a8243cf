-- What a publishing does on one edge: it writes cells, and marks them as no news for the one end and as news for the other.
use Rattle.std.specs.Prelude.{ℕ, ◌≡◌, ◌≢◌, ◌+◌, ◌*◌, ◌/◌, ◌-◌, ◌<◌, ◌⊎◌, Bool, true, false, List, [], ◌∷◌, ◌++◌, Option, Some, None}
use Rattle.std.specs.Int.{bit_at}
use Rattle.list_laws.specs.Booleans.{digit}
use Rattle.edge_lock.specs.Edges.{news_register}
use Rattle.edge_lock.specs.declared.history.Access.{Access}
use Rattle.edge_lock.specs.declared.history.Access.TheVariants.{Read, Write}
use Rattle.edge_lock.specs.History.{found_value}
use Rattle.border_cache.specs.Accesses.{last_write, is_read, reads_nothing}
use Rattle.border_cache.specs.Cells.{CellValue, cell_of}
use Rattle.border_cache.specs.News.{WindowBorder, border, Covers, AreMasks, word_of, IsOfCell}

-- the same edge, from its other end
abbrev pub across : WindowBorder → WindowBorder
across b = border b.sites (1 - b.end) b.places b.count

-- a word with the bits of a mask all changed to one
pub record IsWithMask (old mask : ℕ) (bit : Bool) (new : ℕ) : Type 0 where
  pub same : (i : ℕ) → i < 64 → bit_at mask i ≡ 1 → bit_at new i ≡ digit bit
  pub others : (i : ℕ) → i < 64 → bit_at mask i ≡ 0 → bit_at new i ≡ bit_at old i

-- The news word j of an end: it was first read as one word and written last as another, in which the bits of the covered
-- places are all the same, and the other bits are as they were.
pub record IsWordMarked (b : WindowBorder) (bit : Bool) (accesses : List Access) (j : ℕ) : Type 0 where
  pub first : ℕ
  pub last : ℕ
  pub found : found_value accesses (news_register b.sites b.end j) ≡ Some first
  pub written : last_write accesses (news_register b.sites b.end j) None ≡ Some last
  pub marked : (i : ℕ) → i < 64 → Covers b.places b.count (64 * j + i) → bit_at last i ≡ digit bit
  pub kept : (i : ℕ) → i < 64 → (Covers b.places b.count (64 * j + i) → ⊥) → bit_at last i ≡ bit_at first i

-- the register is the news word of a covered place, of either end
abbrev pub IsEitherWord : WindowBorder → ℕ → Type 0
IsEitherWord b register = (k : ℕ) × Covers b.places b.count k × ((register ≡ word_of b.sites b.end k) ⊎ (register ≡ word_of b.sites (1 - b.end) k))

-- the news words of both ends after the bits of the covered places were cleared at the one end and set at the other
pub record AreMarked (b : WindowBorder) (accesses : List Access) : Type 0 where
  pub mine : (k : ℕ) → Covers b.places b.count k → IsWordMarked b false accesses (k / 64)
  pub theirs : (k : ℕ) → Covers b.places b.count k → IsWordMarked (across b) true accesses (k / 64)
  pub only_read : (register : ℕ) → is_read accesses register ≡ true → IsEitherWord b register
  pub only_written : (register value : ℕ) → last_write accesses register None ≡ Some value → IsEitherWord b register

-- a news word is read, and written with the bits of a mask changed
abbrev pub IsWordPut : ℕ → ℕ → Bool → List Access → Type 0
IsWordPut register mask bit accesses = (old : ℕ) × (new : ℕ) × (accesses ≡ Read register old ∷ Write register new ∷ []) × IsWithMask old mask bit new

-- news word j of an end is written with the bits of a mask cleared, and that of the other end with them set, unless there are none
abbrev pub AreWordsPut : ℕ → ℕ → ℕ → ℕ → List Access → Type 0
AreWordsPut sites end j mask accesses =
    ((mask ≡ 0) × (accesses ≡ []))
    ⊎ ((mask ≢ 0) × (own : List Access) × (other : List Access) × (accesses ≡ own ++ other) × IsWordPut (news_register sites end j) mask false own × IsWordPut (news_register sites (1 - end) j) mask true other)

-- the news words of both ends after the bits of these masks were cleared and set: whichever places have these bits
abbrev pub AreBitsPut : ℕ → ℕ → List ℕ → List Access → Type 0
AreBitsPut sites end masks accesses =
    (places : ℕ → Option ℕ) (n : ℕ) → AreMasks places n masks → ((k : ℕ) → Covers places n k → k < sites) → AreMarked (border sites end places n) accesses

-- no two of the first n sites of a window are at one place
abbrev pub ArePlaces : (ℕ → Option ℕ) → ℕ → Type 0
ArePlaces places n = (i j k : ℕ) → i < n → j < n → places i ≡ Some k → places j ≡ Some k → i ≡ j

-- both words of a cell are left at place k
abbrev pub LeavesCell : List Access → ℕ → CellValue → Type 0
LeavesCell accesses k cell = (low : ℕ) × (high : ℕ) × (last_write accesses (1 + 2 * k) None ≡ Some low) × (last_write accesses (2 + 2 * k) None ≡ Some high) × (cell_of low high ≡ cell)

-- the cells of these places are written, and nothing else
pub record PutsAt (at : ℕ → Type 0) (cell : ℕ → CellValue) (accesses : List Access) : Type 0 where
  pub unread : reads_nothing accesses ≡ true
  pub done : (k : ℕ) → at k → LeavesCell accesses k (cell k)
  pub only : (register value : ℕ) → last_write accesses register None ≡ Some value → (k : ℕ) × at k × IsOfCell k register

-- one cell is written
abbrev pub IsCellPut : CellValue → ℕ → List Access → Type 0
IsCellPut cell k accesses = (low : ℕ) × (high : ℕ) × (accesses ≡ Write (1 + 2 * k) low ∷ Write (2 + 2 * k) high ∷ []) × (cell_of low high ≡ cell)

-- the register has a word of the cell of a covered place, or is the news word of one, of either end
abbrev pub IsPublished : WindowBorder → ℕ → Type 0
IsPublished b register =
    (k : ℕ) × Covers b.places b.count k × ((register ≡ 1 + 2 * k) ⊎ ((register ≡ 2 + 2 * k) ⊎ ((register ≡ word_of b.sites b.end k) ⊎ (register ≡ word_of b.sites (1 - b.end) k))))

-- all that a publishing does on an edge
pub record IsPublish (b : WindowBorder) (cells : ℕ → CellValue) (accesses : List Access) : Type 0 where
  pub cells_put : (j k : ℕ) → j < b.count → b.places j ≡ Some k → LeavesCell accesses k (cells j)
  pub mine : (k : ℕ) → Covers b.places b.count k → IsWordMarked b false accesses (k / 64)
  pub theirs : (k : ℕ) → Covers b.places b.count k → IsWordMarked (across b) true accesses (k / 64)
  pub only_read : (register : ℕ) → is_read accesses register ≡ true → IsEitherWord b register
  pub only_written : (register value : ℕ) → last_write accesses register None ≡ Some value → IsPublished b register
