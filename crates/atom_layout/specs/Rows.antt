-- Rows: the bits of each class, as rounds over all classes compute them.
use Rattle.std.specs.Prelude.{ℕ, zero, suc, ◌≤◌, List, [], ◌∷◌, Vec, map, get_or, sum, min}
use Rattle.std.specs.declared.alloc.Global.{Global}
use Rattle.ulam_tree.specs.Resolved.{Class}
use Rattle.atom_layout.specs.Layouts.{capped_bits, widths}
use Rattle.bit_field.specs.declared.TheConstants.{STATE_BITS}

-- the bits of class k in a row
abbrev pub in_row : List ℕ → ℕ → ℕ
in_row row k = get_or row k 0

-- the bits of a class, if those of all classes are in a row
abbrev pub class_row : List ℕ → Class → ℕ
class_row row c = capped_bits (sum (widths (in_row row) c.members))

-- the row after a number of rounds: zeros, and then the bits of the classes, given the row before
unfoldable pub row_after : ℕ → List Class → List ℕ
row_after zero cs = map (λ (c : Class). 0) cs
row_after (suc m) cs = map (class_row (row_after m cs)) cs

-- a number of bits, or the most that a class may take
abbrev pub narrow : ℕ → ℕ
narrow n = min n STATE_BITS

abbrev pub rows_of : List (Vec ℕ Global) → List (List ℕ)
rows_of rows = map (λ (r : Vec ℕ Global). r.items) rows

-- rows of no more bits than a state has
abbrev pub AllNarrow : List (List ℕ) → Type 0
AllNarrow [] = Unit {0}
AllNarrow (r ∷ rs) = (sum r ≤ STATE_BITS) × AllNarrow rs
