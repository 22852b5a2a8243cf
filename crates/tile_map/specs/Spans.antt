-- The columns and rows that a tile holds, as intervals.
use Rattle.std.specs.Prelude.{ℕ, ◌+◌, ◌-◌, ◌*◌, ◌/◌, ◌%◌, min, max, Bool, ◌==◌, ◌&&◌, nat_le, nat_lt, Option, Some, None, if◌then◌else◌}
use Rattle.tile_map.specs.Plane.{MapValue}

-- a line is cut into n parts of equal size: the first place that part a holds, and one more than the last
abbrev pub low : ℕ → ℕ → ℕ
low size a = a * size - 4

abbrev pub high : ℕ → ℕ → ℕ → ℕ
high n size a = min ((a + 1) * size + 4) n

abbrev pub left_of : MapValue → ℕ → ℕ
left_of m t = low m.w (t % m.tx)

abbrev pub right_of : MapValue → ℕ → ℕ
right_of m t = high (m.tx * m.w) m.w (t % m.tx)

abbrev pub top_of : MapValue → ℕ → ℕ
top_of m t = low m.h (t / m.tx)

abbrev pub bottom_of : MapValue → ℕ → ℕ
bottom_of m t = high (m.ty * m.h) m.h (t / m.tx)

-- what the ends of an edge hold together
abbrev pub left_both : MapValue → ℕ × ℕ → ℕ
left_both m p = max (left_of m p.0) (left_of m p.1)

abbrev pub right_both : MapValue → ℕ × ℕ → ℕ
right_both m p = min (right_of m p.0) (right_of m p.1)

abbrev pub top_both : MapValue → ℕ × ℕ → ℕ
top_both m p = max (top_of m p.0) (top_of m p.1)

abbrev pub bottom_both : MapValue → ℕ × ℕ → ℕ
bottom_both m p = min (bottom_of m p.0) (bottom_of m p.1)

-- a line is cut into n parts of equal size: the first place of part a that has 8 places of the part in front of it, and one
-- more than the last that has 8 after it; at an end of the line all places count
abbrev pub interior_low : ℕ → ℕ → ℕ
interior_low size a = if a == 0 then 0 else a * size + 8

abbrev pub interior_high : ℕ → ℕ → ℕ → ℕ
interior_high n size a = if a + 1 == n then n * size else (a + 1) * size - 8

-- how far a coordinate is from an interval
abbrev pub gap : ℕ → ℕ → ℕ → ℕ
gap from end x = (from - x) + (x + 1 - end)

-- whether (x, y) is in a rectangle
abbrev pub is_within : ℕ → ℕ → ℕ → ℕ → ℕ → ℕ → Bool
is_within left right top bottom x y = (nat_le left x && nat_lt x right) && (nat_le top y && nat_lt y bottom)

-- the place of (x, y) in a rectangle, row by row
abbrev pub place_within : ℕ → ℕ → ℕ → ℕ → ℕ → ℕ → Option ℕ
place_within left right top bottom x y = if is_within left right top bottom x y then Some ((y - top) * (right - left) + (x - left)) else None
