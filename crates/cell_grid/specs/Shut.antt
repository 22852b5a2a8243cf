-- Rectangles of the plane whose sites are made not live.
use Rattle.std.specs.Prelude.{ℕ, ◌≡◌, ◌+◌, ◌-◌, ◌/◌, ◌%◌, ◌<◌, Bool, true, false, ◌&&◌, not, List, length, map, slice_index_or, nat_lt, nat_le, if◌then◌else◌}
use Rattle.std.specs.List.{range_with_len}
use Rattle.bit_field.specs.Atom.{empty_atom}
use Rattle.cell_grid.specs.Grid.{GridValue, site_atom}
pub use Rattle.cell_grid.specs.declared.marks.Rectangle.{Rectangle}

-- the rectangle of w columns and h rows whose first column and row are x and y
abbrev pub rectangle : ℕ → ℕ → ℕ → ℕ → Rectangle
rectangle x y w h = record { left = x; top = y; right = x + w; bottom = y + h }

-- whether a site lies in a rectangle
abbrev pub is_inside : Rectangle → ℕ → ℕ → Bool
is_inside r u v = (nat_le r.left u && nat_lt u r.right) && (nat_le r.top v && nat_lt v r.bottom)

-- a rectangle with 4 more columns and rows on each side; one with no site stays as it is
abbrev pub widen : Rectangle → Rectangle
widen r = if (nat_lt r.left r.right && nat_lt r.top r.bottom) then record { left = r.left - 4; top = r.top - 4; right = r.right + 4; bottom = r.bottom + 4 } else r

-- all sites of the plane in a rectangle are empty
abbrev pub IsEmptyIn : GridValue → Rectangle → Type 0
IsEmptyIn g r = (u v : ℕ) → u < g.width → v < g.height → is_inside r u v ≡ true → site_atom g u v ≡ empty_atom

-- the marks of a plane's sites after those in a rectangle are cleared
unfoldable pub marks_outside : List Bool → ℕ → Rectangle → List Bool
marks_outside marks width r = map (λ i. slice_index_or marks i false && not (is_inside r (i % width) (i / width))) (range_with_len 0 (length marks))

-- the grid after the sites of a rectangle are made not live
abbrev pub shut : GridValue → Rectangle → GridValue
shut g r = record g { live = marks_outside g.live g.width r }
