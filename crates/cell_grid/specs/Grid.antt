-- A flat grid of atoms in row order with its live sites, its windows, and one event.
use Rattle.std.specs.Prelude.{ℕ, ◌≡◌, ◌+◌, ◌*◌, ◌≤◌, ◌<◌, Bool, true, false, List, [], ◌∷◌, length, map, filter, replicate, slice_index_or, slice_set, is_some, nat_lt, Option, Some, None, if◌then◌else◌, ◌==◌}
use Rattle.std.specs.List.{range_with_len}
use Rattle.bit_field.specs.Atom.{AtomValue, empty_atom}
use Rattle.window_sites.specs.Inner.{site_numbers}
use Rattle.window_sites.specs.Sites.{offset_of, shift}
use Rattle.window_sites.specs.Window.{WindowValue, atom_at}
use Rattle.window_sites.specs.declared.window.TheConstants.{MOST_COLUMNS}

-- a grid: its size, its atoms row by row, and which sites are live
pub record GridValue : Type 0 where
  pub width : ℕ
  pub height : ℕ
  pub atoms : List AtomValue
  pub live : List Bool

-- a site that is not live is empty
abbrev pub HidesDead : List AtomValue → List Bool → Type 0
HidesDead atoms live = (i : ℕ) → i < length live → slice_index_or live i false ≡ false → slice_index_or atoms i empty_atom ≡ empty_atom

-- a grid that can be stored
pub record IsGrid (g : GridValue) : Type 0 where
  pub wide : 8 ≤ g.width
  pub not_wider : g.width ≤ MOST_COLUMNS
  pub high : 8 ≤ g.height
  pub not_higher : g.height ≤ MOST_COLUMNS
  pub whole : length g.atoms ≡ g.width * g.height
  pub marked : length g.live ≡ g.width * g.height
  pub hidden : HidesDead g.atoms g.live

-- a grid of empty atoms whose sites are all live
abbrev pub empty_grid : ℕ → ℕ → GridValue
empty_grid width height = record { width = width; height = height; atoms = replicate (width * height) empty_atom; live = replicate (width * height) true }

-- a grid whose sites are all live
abbrev pub IsAllLive : GridValue → Type 0
IsAllLive g = g.live ≡ replicate (g.width * g.height) true

-- two grids of one size with the same live sites
abbrev pub ArePlanesAlike : GridValue → GridValue → Type 0
ArePlanesAlike g h = (h.width ≡ g.width) × (h.height ≡ g.height) × (h.live ≡ g.live)

-- a live site of the plane
pub record IsLive (g : GridValue) (x y : ℕ) : Type 0 where
  pub column : x < g.width
  pub row : y < g.height
  pub marked : slice_index_or g.live (y * g.width + x) false ≡ true

-- the atom of a site of the plane
abbrev pub site_atom : GridValue → ℕ → ℕ → AtomValue
site_atom g x y = slice_index_or g.atoms (y * g.width + x) empty_atom

-- the grid with another atom at a site of the plane
abbrev pub with_site : GridValue → ℕ → ℕ → AtomValue → GridValue
with_site g x y a = record g { atoms = slice_set g.atoms (y * g.width + x) a }

-- a coordinate if there is one and it is less than `end`, otherwise nothing
abbrev pub below : ℕ → Option ℕ → Option ℕ
below end None = None
below end (Some u) = if nat_lt u end then Some u else None

-- the place in row order of the site with this column and this row, if there are both
abbrev pub place_by : ℕ → Option ℕ → Option ℕ → Option ℕ
place_by width None v = None
place_by width (Some u) None = None
place_by width (Some u) (Some v) = Some (v * width + u)

-- a place, if there is one and its site is live
abbrev pub live_place : List Bool → Option ℕ → Option ℕ
live_place live None = None
live_place live (Some i) = if slice_index_or live i false then Some i else None

-- the place of site n of the window at (x, y), if that site is in the plane and live
abbrev pub place_of : GridValue → ℕ → ℕ → ℕ → Option ℕ
place_of g x y n = live_place g.live (place_by g.width (below g.width (shift x (offset_of n).0)) (below g.height (shift y (offset_of n).1)))

-- the atom that a window shows of a place, or empty if there is no place
abbrev pub atom_at_place : GridValue → Option ℕ → AtomValue
atom_at_place g None = empty_atom
atom_at_place g (Some i) = slice_index_or g.atoms i empty_atom

-- the window at (x, y): it shows the atom of each site that is in the plane and live, with a live mark; the other sites are empty and have none
unfoldable pub window_of : GridValue → ℕ → ℕ → WindowValue
window_of g x y = record {
  atoms = map (λ n. atom_at_place g (place_of g x y n)) site_numbers;
  live = map (λ n. is_some (place_of g x y n)) site_numbers;
}

-- whether there is a place and it is i
abbrev pub is_place : Option ℕ → ℕ → Bool
is_place None i = false
is_place (Some j) i = j == i

-- those of the sites of these numbers that lie at place i
abbrev pub sites_at : GridValue → ℕ → ℕ → ℕ → List ℕ → List ℕ
sites_at g x y i ns = filter (λ n. is_place (place_of g x y n) i) ns

-- the atom of place i after a window is written: that of the first of these sites, which lie at i, or the old one if there is none
abbrev pub atom_left : GridValue → WindowValue → ℕ → List ℕ → AtomValue
atom_left g w i [] = slice_index_or g.atoms i empty_atom
atom_left g w i (n ∷ ns) = atom_at w n

-- the grid in which each site of the window at (x, y) that is in the plane and live has its atom of w, and all else is as it was
unfoldable pub put_window : GridValue → ℕ → ℕ → WindowValue → GridValue
put_window g x y w = record g { atoms = map (λ i. atom_left g w i (sites_at g x y i site_numbers)) (range_with_len 0 (length g.atoms)) }

-- the event at (x, y): each live site of the window has its atom of `after`, and all other sites stay
abbrev pub event : (WindowValue → ℕ → WindowValue) → GridValue → ℕ → ℕ → ℕ → GridValue
event after g x y seed = put_window g x y (after (window_of g x y) seed)
