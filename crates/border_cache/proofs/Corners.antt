-- Windows all of whose sites are live, in a tile's copy.
use Rattle.std.proofs.Common.{◌≡◌, ℕ, ◌+◌, ◌-◌, ◌*◌, ◌/◌, ◌%◌, ◌<◌, ◌≤◌, Bool, true, false, true≢false, length, refl, sym, ap, ◌∙◌, arith, Option, Some, None}
use Rattle.std.specs.Prelude.{ℤ, pos, negsuc, is_some, nat_lt, if◌then◌else◌}
use Rattle.std.specs.Int.RustNames.{unsigned_abs}
use Rattle.std.proofs.lemmas.Bool.Decides.{nat_tests}
use Rattle.list_laws.specs.Options.{or_zero}
use Rattle.list_laws.proofs.Tests.{both, together}
use Rattle.window_sites.specs.Sites.{sites, offset_of, shift}
use Rattle.window_sites.specs.Inner.{from_low}
use Rattle.window_sites.proofs.Offsets.{offset-near}
use Rattle.tile_map.specs.Plane.{Site, MapValue, IsMap, site, is_on, is_live}
use Rattle.tile_map.specs.Spans.{low, high, left_of, right_of, top_of, bottom_of}
use Rattle.tile_map.specs.Edges.{window_site, live_site}
use Rattle.tile_map.proofs.Spans.{held_span, plane_test}
use Rattle.tile_map.proofs.Near.{div_is}
use Rattle.cell_grid.proofs.Corners.{from-corner, corner-below}
use Rattle.border_cache.specs.Windows.{is_shown, IsWhole}
use Rattle.border_cache.specs.Copies.{CacheValue, columns_of, rows_of, place_held, HoldsWindow, IsCorner}
use Rattle.border_cache.proofs.Whole.{corners_whole}

-- a site of a window, and where it lies
pub record IsSiteAt (m : MapValue) (c : Site) (n : ℕ) (s : Site) : Type 0 where
  pub is : window_site m c n ≡ Some s
  pub column : s.x + 4 ≡ c.x + from_low (offset_of n).0
  pub row : s.y + 4 ≡ c.y + from_low (offset_of n).1

moved_by : (x u : ℕ) (d : ℤ) → unsigned_abs d ≤ 4 → shift x d ≡ Some u → u + 4 ≡ x + from_low d
moved_by x u (pos d) near h = let p : x + d ≡ u = ap or_zero h in omega (arith, p)
moved_by x u (negsuc d) near h = go (nat_lt d x) refl h
  where
    go : (b : Bool) → nat_lt d x ≡ b → (if b then Some (x - d - 1) else None) ≡ Some u → u + 4 ≡ x + (3 - d)
    go true is g = let p : x - d - 1 ≡ u = ap or_zero g in let lt : d < x = grind (arith, nat_tests, is) in omega (arith, p, lt, near)
    go false is g = absurd (cc g)

-- the sites of a whole window
pub whole_site : (m : MapValue) (c : Site) (n : ℕ) → n < 41 → is_shown m c n ≡ true → (s : Site) × IsSiteAt m c n s
whole_site m c n lt shown = go (shift c.x (offset_of n).0) (shift c.y (offset_of n).1) refl refl shown
  where
    near : (unsigned_abs (offset_of n).0 ≤ 4) × (unsigned_abs (offset_of n).1 ≤ 4)
    near = let o = offset-near n (omega (arith, lt)) in (omega (arith, o), omega (arith, o))

    at : (u v : ℕ) (b : Bool) → is_live m (site u v) ≡ b → shift c.x (offset_of n).0 ≡ Some u → shift c.y (offset_of n).1 ≡ Some v → is_some (if b then Some (site u v) else None) ≡ true → (s : Site) × IsSiteAt m c n s
    at u v true live x y h = (
      site u v,
      record {
        is = (λ i. live_site m (x i) (y i)) ∙ ap (λ b. if b then Some (site u v) else None) live;
        column = moved_by c.x u (offset_of n).0 near.0 x;
        row = moved_by c.y v (offset_of n).1 near.1 y;
      },
    )
    at u v false live x y h = absurd (true≢false (sym h))

    go : (a b : Option ℕ) → shift c.x (offset_of n).0 ≡ a → shift c.y (offset_of n).1 ≡ b → is_some (live_site m a b) ≡ true → (s : Site) × IsSiteAt m c n s
    go None b x y h = absurd (true≢false (sym h))
    go (Some u) None x y h = absurd (true≢false (sym h))
    go (Some u) (Some v) x y h = at u v (is_live m (site u v)) refl x y h

-- the four sites at distance 4 in a row or a column with the centre
west : offset_of 25 ≡ (negsuc 3, pos 0)
unfolding sites
west = refl

east : offset_of 40 ≡ (pos 4, pos 0)
unfolding sites
east = refl

north : offset_of 32 ≡ (pos 0, negsuc 3)
unfolding sites
north = refl

south : offset_of 33 ≡ (pos 0, pos 4)
unfolding sites
south = refl

-- nine columns and nine rows lie in what the tile reaches
pub record IsInReach (m : MapValue) (t x y : ℕ) : Type 0 where
  pub west : left_of m t + 4 ≤ x
  pub east : x + 4 < right_of m t
  pub north : top_of m t + 4 ≤ y
  pub south : y + 4 < bottom_of m t

pub whole_in_reach : (m : MapValue) (t : ℕ) (c : Site) → HoldsWindow m t c → IsWhole m c → IsInReach m t c.x c.y
whole_in_reach m t c holds whole =
    let w = whole_site m c 25 (omega arith) (whole 25 (omega arith)) in
    let e = whole_site m c 40 (omega arith) (whole 40 (omega arith)) in
    let n = whole_site m c 32 (omega arith) (whole 32 (omega arith)) in
    let s = whole_site m c 33 (omega arith) (whole 33 (omega arith)) in
    let wx : w.0.x + 4 ≡ c.x + 0 = w.1.column ∙ ap (λ o. c.x + from_low o.0) west in
    let ex : e.0.x + 4 ≡ c.x + 8 = e.1.column ∙ ap (λ o. c.x + from_low o.0) east in
    let ny : n.0.y + 4 ≡ c.y + 0 = n.1.row ∙ ap (λ o. c.y + from_low o.1) north in
    let sy : s.0.y + 4 ≡ c.y + 8 = s.1.row ∙ ap (λ o. c.y + from_low o.1) south in
    let wh = held_span m t w.0.x w.0.y (holds 25 w.0 (omega arith) w.1.is) in
    let eh = held_span m t e.0.x e.0.y (holds 40 e.0 (omega arith) e.1.is) in
    let nh = held_span m t n.0.x n.0.y (holds 32 n.0 (omega arith) n.1.is) in
    let sh = held_span m t s.0.x s.0.y (holds 33 s.0 (omega arith) s.1.is) in
    record {
      west = let h = wh.1 in omega (arith, wx, h);
      east = let h = eh.2 in omega (arith, ex, h);
      north = let h = nh.3 in omega (arith, ny, h);
      south = let h = sh.4 in omega (arith, sy, h);
    }

-- the place of the first of the nine rows and nine columns
abbrev pub corner_of : MapValue → ℕ → ℕ → ℕ → ℕ
corner_of m t x y = (y - 4 - top_of m t) * columns_of m t + (x - 4 - left_of m t)

place_from : (m : MapValue) (t x y : ℕ) (s : Site) (a b : ℕ) → IsInReach m t x y → s.x + 4 ≡ x + a → s.y + 4 ≡ y + b → place_held m t s ≡ corner_of m t x y + b * columns_of m t + a
place_from m t x y s a b h column row =
    let p : s.x - left_of m t ≡ (x - 4 - left_of m t) + a = let w = h.west in omega (arith, column, w) in
    let q : s.y - top_of m t ≡ (y - 4 - top_of m t) + b = let n = h.north in omega (arith, row, n) in
    (λ i. q i * columns_of m t + p i) ∙ from-corner (y - 4 - top_of m t) b (columns_of m t) (x - 4 - left_of m t) a

pub corner_is : (v : CacheValue) (c : Site) → length v.cells ≡ columns_of v.map v.tile * rows_of v.map v.tile → HoldsWindow v.map v.tile c → IsWhole v.map c → IsCorner v c (corner_of v.map v.tile c.x c.y)
corner_is v c count holds whole =
    let m = v.map in
    let t = v.tile in
    let h = whole_in_reach m t c holds whole in
    record {
      wide = let w = h.west in let e = h.east in omega (arith, w, e);
      fits =
          let rows : c.y - 4 - top_of m t + 9 ≤ rows_of m t = let n = h.north in let s = h.south in omega (arith, n, s) in
          let columns : c.x - 4 - left_of m t + 9 ≤ columns_of m t = let w = h.west in let e = h.east in omega (arith, w, e) in
          let below = corner-below (c.y - 4 - top_of m t) (rows_of m t) (columns_of m t) (c.x - 4 - left_of m t) rows columns in
          omega (arith, below, count);
      kept = λ n lt.
          let s = whole_site m c n lt (whole n lt) in
          (s.0, s.1.is, place_from m t c.x c.y s.0 (from_low (offset_of n).0) (from_low (offset_of n).1) h s.1.column s.1.row);
    }

-- a place is so far inside what a tile reaches of a line that all within 4 of it lie in the tile's own part of the line
same_part : (n size a x u : ℕ) → low size a + 8 ≤ x → x + 8 < high n size a → x ≤ u + 4 → u ≤ x + 4 → (u / size ≡ x / size) × (u < n)
same_part n size a x u from to near far =
    (div_is size a u (omega (arith, from, near)) (omega (arith, to, far)) ∙ sym (div_is size a x (omega (arith, from)) (omega (arith, to))), omega (arith, to, far))

-- a site in the row and the column of tiles of a live one
live_beside : (m : MapValue) (c : Site) (u v : ℕ) → is_live m c ≡ true → (u / m.w ≡ c.x / m.w) × (u < m.tx * m.w) → (v / m.h ≡ c.y / m.h) × (v < m.ty * m.h) → is_live m (site u v) ≡ true
live_beside m c u v live p q = together _ _ (plane_test m u v p.1 q.1) ((λ i. is_on m (q.0 i * m.tx + p.0 i)) ∙ (both _ _ live).1)

-- a site is more than 8 inside what the tile reaches
pub record IsFarInside (m : MapValue) (t : ℕ) (c : Site) : Type 0 where
  pub west : left_of m t + 8 ≤ c.x
  pub east : c.x + 8 < right_of m t
  pub north : top_of m t + 8 ≤ c.y
  pub south : c.y + 8 < bottom_of m t

pub inside_whole : (m : MapValue) → IsMap m → (t : ℕ) (c : Site) → is_live m c ≡ true → IsFarInside m t c → IsWhole m c
inside_whole m valid t c live h =
    let x : (u : ℕ) → c.x ≤ u + 4 → u ≤ c.x + 4 → (u / m.w ≡ c.x / m.w) × (u < m.tx * m.w) = λ u. same_part (m.tx * m.w) m.w (t % m.tx) c.x u h.west h.east in
    let y : (v : ℕ) → c.y ≤ v + 4 → v ≤ c.y + 4 → (v / m.h ≡ c.y / m.h) × (v < m.ty * m.h) = λ v. same_part (m.ty * m.h) m.h (t / m.tx) c.y v h.north h.south in
    let xl = x (c.x - 4) (omega arith) (omega arith) in
    let xh = x (c.x + 4) (omega arith) (omega arith) in
    let yl = y (c.y - 4) (omega arith) (omega arith) in
    let yh = y (c.y + 4) (omega arith) (omega arith) in
    corners_whole m valid c (record {
      west = let w = h.west in omega (arith, w);
      north = let n = h.north in omega (arith, n);
      low_left = live_beside m c (c.x - 4) (c.y - 4) live xl yl;
      low_right = live_beside m c (c.x + 4) (c.y - 4) live xh yl;
      high_left = live_beside m c (c.x - 4) (c.y + 4) live xl yh;
      high_right = live_beside m c (c.x + 4) (c.y + 4) live xh yh;
    })
