-- Cells whose stamps and atoms are kept in two lists.
use Rattle.std.proofs.Common.{◌≡◌, ℕ, zero, suc, List, [], ◌∷◌, length, refl, ap, arith}
use Rattle.std.specs.Prelude.{slice_index, slice_index_or, slice_set}
use Rattle.bit_field.specs.Atom.{AtomValue, empty_atom}
use Rattle.border_cache.specs.Cells.{cell_value, paired_cells, cell_atoms}
use Rattle.border_cache.specs.News.{no_cell}

pub length-cells : (stamps : List ℕ) (atoms : List AtomValue) → length stamps ≡ length atoms → length (paired_cells stamps atoms) ≡ length atoms
length-cells [] [] e = refl
length-cells [] (a ∷ atoms) e = absurd (omega (arith, e))
length-cells (s ∷ stamps) [] e = absurd (omega (arith, e))
length-cells (s ∷ stamps) (a ∷ atoms) e = ap suc (length-cells stamps atoms (omega (arith, e)))

pub cell_in_both : (stamps : List ℕ) (atoms : List AtomValue) (k : ℕ) → length stamps ≡ length atoms → slice_index_or (paired_cells stamps atoms) k no_cell ≡ cell_value (slice_index stamps k) (slice_index_or atoms k empty_atom)
cell_in_both [] [] k e = refl
cell_in_both [] (a ∷ atoms) k e = absurd (omega (arith, e))
cell_in_both (s ∷ stamps) [] k e = absurd (omega (arith, e))
cell_in_both (s ∷ stamps) (a ∷ atoms) zero e = refl
cell_in_both (s ∷ stamps) (a ∷ atoms) (suc k) e = cell_in_both stamps atoms k (omega (arith, e))

pub set-cells : (stamps : List ℕ) (atoms : List AtomValue) (k s : ℕ) (a : AtomValue) → paired_cells (slice_set stamps k s) (slice_set atoms k a) ≡ slice_set (paired_cells stamps atoms) k (cell_value s a)
set-cells [] atoms k s a = refl
set-cells (t ∷ stamps) [] zero s a = refl
set-cells (t ∷ stamps) [] (suc k) s a = refl
set-cells (t ∷ stamps) (b ∷ atoms) zero s a = refl
set-cells (t ∷ stamps) (b ∷ atoms) (suc k) s a = ap (λ cells. cell_value t b ∷ cells) (set-cells stamps atoms k s a)

pub atoms-cells : (stamps : List ℕ) (atoms : List AtomValue) → length stamps ≡ length atoms → cell_atoms (paired_cells stamps atoms) ≡ atoms
atoms-cells [] [] e = refl
atoms-cells [] (a ∷ atoms) e = absurd (omega (arith, e))
atoms-cells (s ∷ stamps) [] e = absurd (omega (arith, e))
atoms-cells (s ∷ stamps) (a ∷ atoms) e = ap (λ rest. a ∷ rest) (atoms-cells stamps atoms (omega (arith, e)))
