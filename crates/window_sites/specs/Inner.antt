-- A window that lies wholly in the plane: its sites are counted from `low`, the place of the first of its nine rows and nine columns.
use Rattle.std.specs.Prelude.{ℕ, ◌+◌, ◌-◌, ◌*◌, List, [], ◌∷◌, map, true, replicate, ℤ, pos, negsuc, slice_index_or, slice_set}
use Rattle.std.specs.List.{range_with_len}
use Rattle.bit_field.specs.Atom.{AtomValue, empty_atom}
use Rattle.window_sites.specs.Sites.{offset_of}
use Rattle.window_sites.specs.Window.{WindowValue}

-- an offset of -4 to 4, counted from -4
abbrev pub from_low : ℤ → ℕ
from_low (pos d) = d + 4
from_low (negsuc d) = 3 - d

-- the place of site n in a plane with rows of this width
abbrev pub inner_place : ℕ → ℕ → ℕ → ℕ
inner_place low width n = low + from_low (offset_of n).1 * width + from_low (offset_of n).0

-- the numbers of the 41 sites
abbrev pub site_numbers : List ℕ
site_numbers = range_with_len 0 41

-- the atoms of the 41 sites
unfoldable pub inner_atoms : List AtomValue → ℕ → ℕ → List AtomValue
inner_atoms plane low width = map (λ n. slice_index_or plane (inner_place low width n) empty_atom) site_numbers

-- the window of 41 live sites with those atoms
abbrev pub inner_window : List AtomValue → ℕ → ℕ → WindowValue
inner_window plane low width = record { atoms = inner_atoms plane low width; live = replicate 41 true }

-- a list of atoms after those of these sites are written into it, from the last site to the first
abbrev pub copy_sites : List AtomValue → List AtomValue → ℕ → ℕ → List ℕ → List AtomValue
copy_sites into plane low width [] = into
copy_sites into plane low width (n ∷ ns) = slice_set (copy_sites into plane low width ns) n (slice_index_or plane (inner_place low width n) empty_atom)

-- a list of atoms after those of `count` sites, from site `first` on, are written into it
unfoldable pub with_sites_read : List AtomValue → List AtomValue → ℕ → ℕ → ℕ → ℕ → List AtomValue
with_sites_read into plane low width first count = copy_sites into plane low width (range_with_len first count)
