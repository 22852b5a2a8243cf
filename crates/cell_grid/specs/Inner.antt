-- Writing the sites of a window that lies wholly in the plane.
use Rattle.std.specs.Prelude.{ℕ, List, [], ◌∷◌, slice_index_or, slice_set}
use Rattle.std.specs.List.{range_with_len}
use Rattle.bit_field.specs.Atom.{AtomValue, empty_atom}
use Rattle.window_sites.specs.Inner.{inner_place, site_numbers}

-- the atoms after those of these sites are written, from the last site to the first
abbrev pub with_sites : List AtomValue → ℕ → ℕ → List AtomValue → List ℕ → List AtomValue
with_sites atoms low width from [] = atoms
with_sites atoms low width from (n ∷ ns) = slice_set (with_sites atoms low width from ns) (inner_place low width n) (slice_index_or from n empty_atom)

-- the atoms after those of all 41 sites are written
unfoldable pub with_inner : List AtomValue → ℕ → ℕ → List AtomValue → List AtomValue
with_inner atoms low width from = with_sites atoms low width from site_numbers

-- the atoms after those of `count` sites, from site `first` on, are written
unfoldable pub with_sites_put : List AtomValue → ℕ → ℕ → List AtomValue → ℕ → ℕ → List AtomValue
with_sites_put atoms low width from first count = with_sites atoms low width from (range_with_len first count)
