-- What one act makes of a plane, given the words that it draws.
use Rattle.std.specs.Prelude.{ℕ, ◌+◌, ◌-◌, ◌*◌, ◌/◌, ◌%◌, ◌<◌, ◌≤◌, Bool, false, ◌&&◌, not, map, length, slice_index_or, nat_lt, ◌==◌, if◌then◌else◌}
use Rattle.std.specs.List.{range_with_len}
use Rattle.bit_field.specs.Atom.{AtomValue, empty_atom, field}
use Rattle.bit_field.specs.Words.{with_field}
use Rattle.bit_field.specs.declared.TheConstants.{STATE_BITS}
use Rattle.cell_grid.specs.Grid.{GridValue}
use Rattle.cell_grid.specs.Shut.{rectangle, is_inside}
use Rattle.cell_grid.specs.declared.marks.Rectangle.{Rectangle}
use Rattle.draw_stream.specs.Words.{tile_word}
use Rattle.plane_acts.specs.declared.chance.TheConstants.{BILLION}
pub use Rattle.plane_acts.specs.declared.act.Act.{Act}
use Rattle.plane_acts.specs.declared.act.Act.TheVariants.{Clear, Put, Erase, Flip, Attempts}

-- an area of a plane has at least one column and one row, and lies in the plane
pub record IsAreaOf (width height : ℕ) (area : Rectangle) : Type 0 where
  pub columns : (area.left < area.right) × (area.right ≤ width)
  pub rows : (area.top < area.bottom) × (area.bottom ≤ height)

-- the area of an act, if it has one, is one of a plane of this size
abbrev pub IsActOn : ℕ → ℕ → Act → Type 0
IsActOn width height (Clear area) = IsAreaOf width height area
IsActOn width height (Put area atom) = IsAreaOf width height area
IsActOn width height (Erase chance area) = IsAreaOf width height area
IsActOn width height (Flip chance area) = IsAreaOf width height area
IsActOn width height (Attempts count) = Unit {0}

-- the area of an act; that of `Attempts` has no site
abbrev pub area_of : Act → Rectangle
area_of (Clear area) = area
area_of (Put area atom) = area
area_of (Erase chance area) = area
area_of (Flip chance area) = area
area_of (Attempts count) = rectangle 0 0 0 0

-- how many words an act draws for each site of its area, be the site live or not, hit or not
abbrev pub words_per_site : Act → ℕ
words_per_site (Clear area) = 0
words_per_site (Put area atom) = 0
words_per_site (Erase chance area) = 1
words_per_site (Flip chance area) = 2
words_per_site (Attempts count) = 0

-- how many sites an area has
abbrev pub site_count : Rectangle → ℕ
site_count area = (area.right - area.left) * (area.bottom - area.top)

-- how many sites of an area come before site (x, y) of it, row by row, each row from its first column on
abbrev pub sites_before : Rectangle → ℕ → ℕ → ℕ
sites_before area x y = (y - area.top) * (area.right - area.left) + (x - area.left)

-- how many words an act draws
abbrev pub words_drawn : Act → ℕ
words_drawn act = words_per_site act * site_count (area_of act)

-- whether a word hits a chance of so many billionths
abbrev pub is_hit : ℕ → ℕ → Bool
is_hit chance word = nat_lt (word % BILLION) chance

-- whether an atom is another than the empty one
abbrev pub is_occupant : AtomValue → Bool
is_occupant a = not (a.kind == 0 && a.state == 0)

-- the atom with one bit of its state changed; bit 0 is the most significant of the 71
abbrev pub with_bit_changed : AtomValue → ℕ → AtomValue
with_bit_changed a bit = with_field a bit 1 (1 - field a bit 1)

-- the atom that an act leaves at a live site of its area, by the atom that is there and the first and second word for this site (an act that draws fewer words doesn't look at them)
abbrev pub atom_after : Act → ℕ → ℕ → AtomValue → AtomValue
atom_after (Clear area) first second a = empty_atom
atom_after (Put area atom) first second a = atom
atom_after (Erase chance area) first second a = if is_hit chance first then empty_atom else a
atom_after (Flip chance area) first second a = if (is_hit chance first && is_occupant a) then with_bit_changed a (second % STATE_BITS) else a
atom_after (Attempts count) first second a = a

-- the atom that an act leaves at site (x, y) of its area, if the site is live; the words of the act are those of the stream of a seed from word n on
abbrev pub atom_at_site : ℕ → ℕ → Act → ℕ → ℕ → AtomValue → AtomValue
atom_at_site seed n act x y a =
    let w = n + words_per_site act * sites_before (area_of act) x y in
    atom_after act (tile_word seed w) (tile_word seed (w + 1)) a

-- whether the site at place i of a plane is live and lies in an area
abbrev pub is_reached : GridValue → Rectangle → ℕ → Bool
is_reached g area i = slice_index_or g.live i false && is_inside area (i % g.width) (i / g.width)

-- the atom at place i of a plane after an act
abbrev pub atom_left_at : ℕ → ℕ → Act → GridValue → ℕ → AtomValue
atom_left_at seed n act g i =
    let a = slice_index_or g.atoms i empty_atom in
    if is_reached g (area_of act) i then atom_at_site seed n act (i % g.width) (i / g.width) a else a

-- the grid after an act: each live site of the act's area has the atom that the act leaves there, and all else is as it was; the words of the act are those of the stream of a seed from word n on
unfoldable pub after_act : ℕ → ℕ → Act → GridValue → GridValue
after_act seed n act g = record g { atoms = map (atom_left_at seed n act g) (range_with_len 0 (length g.atoms)) }
