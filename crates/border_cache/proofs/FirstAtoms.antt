-- The atoms of a rectangle of a grid, a row at a time.
use Rattle.std.proofs.Common.{◌≡◌, ℕ, ◌+◌, ◌-◌, ◌*◌, ◌/◌, ◌%◌, ◌<◌, ◌≤◌, inl, inr, List, ◌++◌, length, sym, ap, ◌∙◌, arith, length-append}
use Rattle.std.specs.Prelude.{slice_index_or}
use Rattle.std.specs.List.{slice_range}
use Rattle.std.proofs.lemmas.List.{get_or_append_left, get_or-append_right}
use Rattle.std.proofs.lemmas.List.Edits.{length-between, get_or-between}
use Rattle.std.proofs.lemmas.Bool.{cases_lt}
use Rattle.std.proofs.lemmas.Nat.{mod-mul-add, div-mul-add}
use Rattle.bit_field.specs.Atom.{AtomValue, empty_atom}
use Rattle.cell_grid.specs.Grid.{GridValue, site_atom}
use Rattle.border_cache.specs.Copies.{Patch, AreAtomsIn, atom_in}

-- the atoms of the first n rows of a rectangle of a grid
pub record AreRowsIn (g : GridValue) (p : Patch) (n : ℕ) (atoms : List AtomValue) : Type 0 where
  pub count : length atoms ≡ n * p.width
  pub each : (k : ℕ) → k < n * p.width → slice_index_or atoms k empty_atom ≡ atom_in g p k

-- the atoms of a row of a grid
pub record IsRowOf (g : GridValue) (y : ℕ) (row : List AtomValue) : Type 0 where
  pub count : length row ≡ g.width
  pub each : (x : ℕ) → x < g.width → slice_index_or row x empty_atom ≡ site_atom g x y

pub no_rows : (g : GridValue) (p : Patch) (n : ℕ) (atoms : List AtomValue) → n ≡ 0 → length atoms ≡ 0 → AreRowsIn g p n atoms
no_rows g p n atoms zero none =
    let nothing : n * p.width ≡ 0 = ap (λ k. k * p.width) zero ∙ omega arith in
    record { count = omega (arith, none, nothing); each = λ k lt. absurd (omega (arith, lt, nothing)) }

pub all_rows : (g : GridValue) (p : Patch) (n : ℕ) (atoms : List AtomValue) → n ≡ p.height → AreRowsIn g p n atoms → AreAtomsIn g p atoms
all_rows g p n atoms last rows =
    let area : n * p.width ≡ p.width * p.height = ap (λ k. k * p.width) last ∙ omega arith in
    record { count = rows.count ∙ area; each = λ k lt. rows.each k (omega (arith, lt, area)) }

module _ (g : GridValue) (p : Patch) (n : ℕ) (row : List AtomValue) (is : IsRowOf g (p.top + n) row) (fits : p.left + p.width ≤ g.width) where
  -- the atom of column j of the rectangle in this row
  at_column : (j : ℕ) → j < p.width → slice_index_or (slice_range row p.left (p.left + p.width)) j empty_atom ≡ site_atom g (p.left + j) (p.top + n)
  at_column j lt = get_or-between row p.left (p.left + p.width) j empty_atom (omega (arith, lt)) ∙ is.each (p.left + j) (omega (arith, lt, fits))

  -- a row more
  pub row_added : (old : List AtomValue) → AreRowsIn g p n old → AreRowsIn g p (n + 1) (old ++ slice_range row p.left (p.left + p.width))
  row_added old rows =
      let more : (n + 1) * p.width ≡ n * p.width + p.width = omega arith in
      record {
        count = let size = length-between row p.left (p.left + p.width) (omega (arith, is.count, fits)) in omega (arith, length-append old (slice_range row p.left (p.left + p.width)), size, rows.count, more);
        each = λ k lt. elim (cases_lt k (n * p.width)) [
          | inl h ↦ get_or_append_left old (slice_range row p.left (p.left + p.width)) empty_atom k (omega (arith, h, rows.count)) ∙ rows.each k h
          | inr h ↦
              let below : k - n * p.width < p.width = omega (arith, lt, h, more) in
              let place : n * p.width + (k - n * p.width) ≡ k = omega (arith, h) in
              let x : k - n * p.width ≡ k % p.width = sym (mod-mul-add n p.width (k - n * p.width) below) ∙ ap (λ i. i % p.width) place in
              let y : n ≡ k / p.width = sym (div-mul-add n p.width (k - n * p.width) below) ∙ ap (λ i. i / p.width) place in
              get_or-append_right old (slice_range row p.left (p.left + p.width)) (n * p.width) k empty_atom rows.count h
              ∙ at_column (k - n * p.width) below
              ∙ (λ i. site_atom g (p.left + x i) (p.top + y i))
        ];
      }
