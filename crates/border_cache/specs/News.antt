-- What a refresh reads on one edge.
use Rattle.std.specs.Prelude.{ℕ, ◌≡◌, ◌≢◌, ◌+◌, ◌*◌, ◌/◌, ◌%◌, ◌<◌, ◌≤◌, length, slice_index_or, bit_and, ◌==◌, ◌⊎◌, Bool, true, false, if◌then◌else◌, List, [], ◌∷◌, Option, Some, None}
use Rattle.std.specs.Int.{bit_at}
use Rattle.edge_lock.specs.Edges.{news_register}
use Rattle.edge_lock.specs.declared.history.Access.{Access}
use Rattle.edge_lock.specs.declared.history.Access.TheVariants.{Read}
use Rattle.edge_lock.specs.History.{found_value}
use Rattle.edge_lock.specs.EndLists.{writes_nothing}
use Rattle.border_cache.specs.Cells.{CellValue, cell_of, cell_value}
use Rattle.bit_field.specs.Atom.{empty_atom}

-- One end of an edge, as a window meets it: how many sites the edge shares, which end it is, the place that each site of
-- the window has among the shared sites, if it is one of them, and how many sites of the window are looked at.
pub record WindowBorder : Type 0 where
  pub sites : ℕ
  pub end : ℕ
  pub places : ℕ → Option ℕ
  pub count : ℕ

abbrev pub border : ℕ → ℕ → (ℕ → Option ℕ) → ℕ → WindowBorder
border sites end places count = record { sites = sites; end = end; places = places; count = count }

-- the places of a window's sites, as a list
abbrev pub nth_place : List (Option ℕ) → ℕ → Option ℕ
nth_place places n = slice_index_or places n None

-- one of the first n sites of the window is at place k
abbrev pub Covers : (ℕ → Option ℕ) → ℕ → ℕ → Type 0
Covers places n k = (j : ℕ) × (j < n) × (places j ≡ Some k)

-- bit k of words of 64 bits
abbrev pub bit_in : List ℕ → ℕ → ℕ
bit_in words k = bit_at (slice_index_or words (k / 64) 0) (k % 64)

-- these words have the bits of the places of the first n sites of a window, and no others
pub record AreMasks (places : ℕ → Option ℕ) (n : ℕ) (masks : List ℕ) : Type 0 where
  pub set : (k : ℕ) → Covers places n k → bit_in masks k ≡ 1
  pub only : (k : ℕ) → bit_in masks k ≡ 1 → Covers places n k

-- the bit of one more place is set, if there is a place
pub record SetsPlace (place : Option ℕ) (old new : List ℕ) : Type 0 where
  pub count : length new ≡ length old
  pub set : (k : ℕ) → place ≡ Some k → bit_in new k ≡ 1
  pub others : (k : ℕ) → (place ≡ Some k → ⊥) → bit_in new k ≡ bit_in old k

-- the bits of the places from `start` up to `end` and without it are set
pub record SetsRun (start end : ℕ) (old new : List ℕ) : Type 0 where
  pub count : length new ≡ length old
  pub inside : (k : ℕ) → start ≤ k → k < end → bit_in new k ≡ 1
  pub outside : (k : ℕ) → (k < start) ⊎ (end ≤ k) → bit_in new k ≡ bit_in old k

-- the bits of the places from `start` up to `end` and without it are not set
abbrev pub AreClearIn : ℕ → ℕ → List ℕ → Type 0
AreClearIn start end words = (k : ℕ) → start ≤ k → k < end → bit_in words k ≡ 0

-- the register of the news word of an end that has the bit of place k
abbrev pub word_of : ℕ → ℕ → ℕ → ℕ
word_of sites end k = news_register sites end (k / 64)

-- the register is one of the two that have the cell of place k
abbrev pub IsOfCell : ℕ → ℕ → Type 0
IsOfCell k register = (register ≡ 1 + 2 * k) ⊎ (register ≡ 2 + 2 * k)

-- whether a news word that was found has the bit of place k set
abbrev pub has_bit : Option ℕ → ℕ → Bool
has_bit None k = false
has_bit (Some word) k = bit_at word (k % 64) == 1

-- whether place k was found to be news for the end
abbrev pub is_news : ℕ → ℕ → List Access → ℕ → Bool
is_news sites end accesses k = has_bit (found_value accesses (word_of sites end k)) k

-- the cell that two words represent, if both were found
abbrev pub cell_in : Option ℕ → Option ℕ → Option CellValue
cell_in None high = None
cell_in (Some low) None = None
cell_in (Some low) (Some high) = Some (cell_of low high)

-- the cell that was found at a place, if it was news
abbrev pub found_cell_at : ℕ → ℕ → List Access → ℕ → Option CellValue
found_cell_at sites end accesses k = if is_news sites end accesses k then cell_in (found_value accesses (1 + 2 * k)) (found_value accesses (2 + 2 * k)) else None

-- the same for a site that the edge may not share
abbrev pub found_cell : ℕ → ℕ → List Access → Option ℕ → Option CellValue
found_cell sites end accesses None = None
found_cell sites end accesses (Some k) = found_cell_at sites end accesses k

-- the cell that was found at site n of the window that meets the border
abbrev pub found_on : WindowBorder → List Access → ℕ → Option CellValue
found_on b accesses n = found_cell b.sites b.end accesses (b.places n)

-- a value was found in the register
abbrev pub Finds : List Access → ℕ → Type 0
Finds accesses register = (value : ℕ) × (found_value accesses register ≡ Some value)

-- both words of the cell of place k were found
abbrev pub FindsCell : List Access → ℕ → Type 0
FindsCell accesses k = (low : ℕ) × (high : ℕ) × (found_value accesses (1 + 2 * k) ≡ Some low) × (found_value accesses (2 + 2 * k) ≡ Some high)

-- a refresh may read the register: it is the news word of a covered place, or one of the two registers of a covered place
-- that was found to be news
abbrev pub IsAsked : WindowBorder → List Access → ℕ → Type 0
IsAsked b accesses register =
    (k : ℕ) × Covers b.places b.count k × ((register ≡ word_of b.sites b.end k) ⊎ ((is_news b.sites b.end accesses k ≡ true) × IsOfCell k register))

-- the reads of a refresh: the end's news words of the covered places, and exactly the cells that are news
pub record IsRefresh (b : WindowBorder) (accesses : List Access) : Type 0 where
  pub silent : writes_nothing accesses ≡ true
  pub words : (k : ℕ) → Covers b.places b.count k → Finds accesses (word_of b.sites b.end k)
  pub cells : (k : ℕ) → Covers b.places b.count k → is_news b.sites b.end accesses k ≡ true → FindsCell accesses k
  pub only : (register value : ℕ) → found_value accesses register ≡ Some value → IsAsked b accesses register

-- the register is the end's news word of a covered place
abbrev pub IsCoveredWord : WindowBorder → ℕ → Type 0
IsCoveredWord b register = (k : ℕ) × Covers b.places b.count k × (register ≡ word_of b.sites b.end k)

-- the reads of the end's news words of the covered places: those of the places that are news have their bits in `news`
pub record IsNewsRead (b : WindowBorder) (news : List ℕ) (accesses : List Access) : Type 0 where
  pub silent : writes_nothing accesses ≡ true
  pub words : (k : ℕ) → Covers b.places b.count k → Finds accesses (word_of b.sites b.end k)
  pub bits : (k : ℕ) → Covers b.places b.count k → is_news b.sites b.end accesses k ≡ (bit_in news k == 1)
  pub only : (register value : ℕ) → found_value accesses register ≡ Some value → IsCoveredWord b register

-- the news words of an end are read so, of whichever places have the bits of these masks
abbrev pub AreNewsRead : ℕ → ℕ → List ℕ → List ℕ → List Access → Type 0
AreNewsRead sites end masks news accesses =
    (places : ℕ → Option ℕ) (n : ℕ) → AreMasks places n masks → ((k : ℕ) → Covers places n k → k < sites) → IsNewsRead (border sites end places n) news accesses

-- a news word is read, unless a mask has no bits, and gives those of its bits that the mask has
abbrev pub IsWordRead : ℕ → ℕ → ℕ → List Access → Type 0
IsWordRead register mask news accesses =
    ((mask ≡ 0) × (news ≡ 0) × (accesses ≡ [])) ⊎ ((mask ≢ 0) × (word : ℕ) × (accesses ≡ Read register word ∷ []) × (news ≡ bit_and word mask))

-- the reads of the cell of place k, if its bit is set
abbrev pub IsSiteRead : ℕ → ℕ → Option CellValue → List Access → Type 0
IsSiteRead k bit None accesses = (accesses ≡ []) × (bit ≡ 0)
IsSiteRead k bit (Some cell) accesses =
    (low : ℕ) × (high : ℕ) × (accesses ≡ Read (1 + 2 * k) low ∷ Read (2 + 2 * k) high ∷ []) × (bit ≡ 1) × (cell ≡ cell_of low high)

-- no cell
abbrev pub no_cell : CellValue
no_cell = cell_value 0 empty_atom

-- a place is one of an edge's shared sites
abbrev pub IsPlace : ℕ → Option ℕ → Type 0
IsPlace sites None = Unit {0}
IsPlace sites (Some k) = k < sites

-- the cell of a place, if both of its words were found
abbrev pub read_cell : List Access → Option ℕ → Option CellValue
read_cell accesses None = None
read_cell accesses (Some k) = cell_in (found_value accesses (1 + 2 * k)) (found_value accesses (2 + 2 * k))

-- a place is one of these, and its bit is set
abbrev pub NewsIn : List ℕ → (ℕ → Type 0) → ℕ → Type 0
NewsIn news at k = at k × (bit_in news k ≡ 1)
