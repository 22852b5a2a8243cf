-- Cells: an atom with the stamp of the event that left it, the newest of several, and the two words
-- that represent one.
use Rattle.std.specs.Prelude.{ℕ, ◌/◌, ◌%◌, ◌^◌, List, [], ◌∷◌, map, nat_lt, if◌then◌else◌, Option, None, Some}
use Rattle.bit_field.specs.Atom.{AtomValue}
use Rattle.bit_field.specs.Words.{atom_of}

pub record CellValue : Type 0 where
  pub stamp : ℕ
  pub atom : AtomValue

abbrev pub cell_value : ℕ → AtomValue → CellValue
cell_value stamp atom = record { stamp = stamp; atom = atom }

-- cells whose stamps and atoms are kept in two lists
abbrev pub paired_cells : List ℕ → List AtomValue → List CellValue
paired_cells [] atoms = []
paired_cells (stamp ∷ stamps) [] = []
paired_cells (stamp ∷ stamps) (atom ∷ atoms) = cell_value stamp atom ∷ paired_cells stamps atoms

-- the atoms of cells
abbrev pub cell_atoms : List CellValue → List AtomValue
cell_atoms cells = map (λ cell. cell.atom) cells

-- the cell that two words represent: the low 64 bits of the atom, and the stamp above the high 32
-- bits of the atom
abbrev pub cell_of : ℕ → ℕ → CellValue
cell_of low high = cell_value (high / 2 ^ 32) (atom_of low (high % 2 ^ 32))

-- the newer of two cells, the second of which may be missing; the first, if both have one stamp
abbrev pub newer : CellValue → Option CellValue → CellValue
newer own None = own
newer own (Some other) = if nat_lt own.stamp other.stamp then other else own

-- the first of the cells with the greatest stamp
abbrev pub newest : CellValue → List CellValue → CellValue
newest own [] = own
newest own (other ∷ others) = newest (newer own (Some other)) others
