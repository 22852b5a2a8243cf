-- How far an act has come, and how far a list of acts has.
use Rattle.std.specs.Prelude.{ℕ, ◌≡◌, ◌+◌, ◌-◌, ◌*◌, ◌/◌, ◌%◌, Bool, ◌&&◌, List, ◌++◌, map, length, slice_index_or, nat_lt, if◌then◌else◌}
use Rattle.std.specs.List.{range_with_len}
use Rattle.bit_field.specs.Atom.{AtomValue, empty_atom}
use Rattle.cell_grid.specs.Grid.{GridValue}
use Rattle.cell_grid.specs.declared.marks.Rectangle.{Rectangle}
use Rattle.draw_stream.specs.Words.{tile_state}
use Rattle.plane_acts.specs.Acts.{Act, area_of, atom_at_site, is_reached, sites_before, words_per_site}
use Rattle.plane_acts.specs.Schedules.{after_acts}

-- where an act starts: the seed of the stream, the place in it of the act's first word, and the grid
pub record Start : Type 0 where
  pub seed : ℕ
  pub first : ℕ
  pub grid : GridValue

-- how many sites of an area lie above row y
abbrev pub sites_above : Rectangle → ℕ → ℕ
sites_above area y = (y - area.top) * (area.right - area.left)

-- whether the site at place i is one of the first `count` of an area, and live
abbrev pub is_reached_by : GridValue → Rectangle → ℕ → ℕ → Bool
is_reached_by g area count i = is_reached g area i && nat_lt (sites_before area (i % g.width) (i / g.width)) count

-- the atom at place i once an act is done at the first `count` sites of its area
abbrev pub atom_so_far : Act → Start → ℕ → ℕ → AtomValue
atom_so_far act s count i =
    let g = s.grid in
    let a = slice_index_or g.atoms i empty_atom in
    if is_reached_by g (area_of act) count i then atom_at_site s.seed s.first act (i % g.width) (i / g.width) a else a

-- the grid once an act is done at the first `count` sites of its area
unfoldable pub grid_so_far : Act → Start → ℕ → GridValue
grid_so_far act s count = record s.grid { atoms = map (atom_so_far act s count) (range_with_len 0 (length s.grid.atoms)) }

-- an act is done at the first `count` sites of its area: the state of the stream and the grid are those of then
pub record IsUpTo (act : Act) (s : Start) (count : ℕ) (words : List ℕ) (grid : GridValue) : Type 0 where
  pub words_at : words ≡ tile_state s.seed (s.first + words_per_site act * count)
  pub grid_at : grid ≡ grid_so_far act s count

-- acts are done one after another, from a state of a stream and a grid on: wherever in a stream that state is, the second state is further on there, and the second grid is what the acts leave
pub record AreDone (acts : List Act) (words : List ℕ) (grid : GridValue) (words' : List ℕ) (grid' : GridValue) : Type 0 where
  pub rest : (seed n : ℕ) → words ≡ tile_state seed n →
      (m : ℕ) × (words' ≡ tile_state seed m) × ((more : List Act) → after_acts seed n (acts ++ more) grid ≡ after_acts seed m more grid')
