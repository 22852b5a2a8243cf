-- A grid of a plane without an atom: its size, the rectangles of the tiles, and what is left of the marks.
use Rattle.std.proofs.Common.{ℕ, ◌≡◌, ◌≤◌, ◌<◌, ◌+◌, ◌*◌, ◌/◌, ◌%◌, ◌==◌, ◌&&◌, Bool, true, false, not, length, get_or, refl, sym, ap, subst, ◌∙◌, arith}
use Rattle.std.specs.Prelude.{◌||◌, nat_le, nat_lt}
use Rattle.std.proofs.lemmas.Bool.Decides.{nat_tests}
use Rattle.std.proofs.lemmas.List.{length-replicate, get_or-replicate}
use Rattle.std.proofs.lemmas.List.FromFn.{get_or-map-range_with_len}
use Rattle.std.proofs.lemmas.Nat.{div-mul-add, mod-mul-add, mul-add-lt}
use Rattle.std.proofs.Math.Bool.{or-true}
use Rattle.list_laws.proofs.Tests.{both, together}
use Rattle.bit_field.specs.Atom.{empty_atom}
use Rattle.tile_map.specs.Plane.{Site, MapValue, IsMap, site, site_in, tiles_of, is_on, is_live, owner_of, is_owned}
use Rattle.tile_map.proofs.PlaneLaws.{owner_owned, owner_low, owners}
use Rattle.tile_map.proofs.Sharing.{column_low, row_low}
use Rattle.tile_map.proofs.Spans.{times_more, plane_test}
use Rattle.cell_grid.specs.Grid.{GridValue, empty_grid}
use Rattle.cell_grid.specs.Shut.{rectangle, is_inside, IsEmptyIn, marks_outside, shut}
use Rattle.cell_grid.proofs.Cleared.{IsGrid-shut}
use Rattle.plane_grid.specs.BlankGrid.{IsShutTo}
use Rattle.plane_grid.specs.PlaneGrids.{IsPlaneGrid}

-- how many columns and rows a plane has
bounds : (a b : ℕ) → 1 ≤ a → a ≤ 8 → 8 ≤ b → b ≤ 64 → (8 ≤ a * b) × (a * b ≤ 512)
bounds a b p q r s = let low = times_more 1 a b p in let high = times_more a 8 b q in (omega (arith, low, r), omega (arith, high, s))

pub wide : (m : MapValue) → IsMap m → (8 ≤ m.tx * m.w) × (m.tx * m.w ≤ 512)
wide m valid = let s = valid.sizes in bounds m.tx m.w s.tx_low s.tx_high s.w_low s.w_high

pub high : (m : MapValue) → IsMap m → (8 ≤ m.ty * m.h) × (m.ty * m.h ≤ 512)
high m valid = let s = valid.sizes in bounds m.ty m.h s.ty_low s.ty_high s.h_low s.h_high

pub some_tiles : (m : MapValue) → IsMap m → 1 ≤ m.tx * m.ty
some_tiles m valid = let s = valid.sizes in let low = times_more 1 m.tx m.ty s.tx_low in omega (arith, low, s.ty_low)

pub some_sites : (m : MapValue) → IsMap m → 8 ≤ m.w * m.h
some_sites m valid = let s = valid.sizes in let low = times_more 1 m.w m.h (omega (arith, s.w_low)) in omega (arith, low, s.h_low)

-- the first site of a tile
first_column : (w : ℕ) → 1 ≤ w → 0 % w ≡ 0
first_column w p = let none : 0 ≡ 0 * w + 0 = omega arith in ap (λ n. n % w) none ∙ mod-mul-add 0 w 0 (omega (arith, p))

first_row : (w : ℕ) → 1 ≤ w → 0 / w ≡ 0
first_row w p = let none : 0 ≡ 0 * w + 0 = omega arith in ap (λ n. n / w) none ∙ div-mul-add 0 w 0 (omega (arith, p))

module _ (m : MapValue) (valid : IsMap m) (t : ℕ) where
  left_top : (left top : ℕ) → site left top ≡ site_in m t 0 → (left ≡ t % m.tx * m.w) × (top ≡ t / m.tx * m.h)
  left_top left top e =
      let some : 1 ≤ m.w = omega (arith, valid.sizes.w_low) in
      let x = ap (λ (s : Site). s.x) e in
      let y = ap (λ (s : Site). s.y) e in
      (omega (arith, x, first_column m.w some), omega (arith, y, first_row m.w some))

  next : (a w : ℕ) → a * w + w ≡ (a + 1) * w
  next a w = grind arith

  abbrev inside_columns : ℕ → Bool
  inside_columns x = nat_le (t % m.tx * m.w) x && nat_lt x ((t % m.tx + 1) * m.w)

  abbrev inside_rows : ℕ → Bool
  inside_rows y = nat_le (t / m.tx * m.h) y && nat_lt y ((t / m.tx + 1) * m.h)

  inside_area : (x y : ℕ) → is_inside (rectangle (t % m.tx * m.w) (t / m.tx * m.h) m.w m.h) x y ≡ (inside_columns x && inside_rows y)
  inside_area x y = λ i. (nat_le (t % m.tx * m.w) x && nat_lt x (next (t % m.tx) m.w i)) && (nat_le (t / m.tx * m.h) y && nat_lt y (next (t / m.tx) m.h i))

  -- a rectangle of a tile has the sites that the tile owns
  owned_area : (x y : ℕ) → t < tiles_of m → x < m.tx * m.w → y < m.ty * m.h → is_inside (rectangle (t % m.tx * m.w) (t / m.tx * m.h) m.w m.h) x y ≡ (owner_of m (site x y) == t)
  owned_area x y lt lx ly = inside_area x y ∙ go (inside_columns x && inside_rows y) (owner_of m (site x y) == t) refl refl
    where
      here : nat_lt t (tiles_of m) ≡ true
      here = grind (arith, nat_tests, lt)

      go : (c d : Bool) → (inside_columns x && inside_rows y) ≡ c → (owner_of m (site x y) == t) ≡ d → c ≡ d
      go true true p q = refl
      go false false p q = refl
      go true false p q =
          let is = (owners m valid).one t (site x y) (together (nat_lt t (tiles_of m)) (inside_columns x && inside_rows y) here p) in
          absurd (grind (arith, nat_tests, q, is))
      go false true p q =
          let is : owner_of m (site x y) ≡ t = grind (arith, nat_tests, q) in
          let owned = subst (λ u. is_owned m u (site x y) ≡ true) is (owner_owned m valid (site x y) (plane_test m x y lx ly)) in
          let both' = both (nat_lt t (tiles_of m)) (inside_columns x && inside_rows y) owned in
          absurd (cc (p, both'.1))

  fits_area : t < tiles_of m → (t % m.tx * m.w + m.w ≤ m.tx * m.w) × (t / m.tx * m.h + m.h ≤ m.ty * m.h)
  fits_area lt =
      let c = times_more (t % m.tx + 1) m.tx m.w (let k = column_low m valid t lt in omega (arith, k)) in
      let r = times_more (t / m.tx + 1) m.ty m.h (let k = row_low m valid t lt in omega (arith, k)) in
      (omega (arith, c, next (t % m.tx) m.w), omega (arith, r, next (t / m.tx) m.h))

and_false : (b : Bool) → (b && false) ≡ false
and_false true = refl
and_false false = refl

and_true : (b : Bool) → (b && true) ≡ b
and_true true = refl
and_true false = refl

le_next : (t o : ℕ) → (o == t) ≡ false → nat_le t o ≡ nat_le (t + 1) o
le_next t o ne = go (nat_le t o) (nat_le (t + 1) o) refl refl
  where
    go : (a b : Bool) → nat_le t o ≡ a → nat_le (t + 1) o ≡ b → a ≡ b
    go true true p q = refl
    go false false p q = refl
    go true false p q = absurd (grind (arith, nat_tests, ne, p, q))
    go false true p q = absurd (grind (arith, nat_tests, ne, p, q))

module _ (m : MapValue) where
  -- the mark of a site of tile o, before the tiles from t on are seen to
  abbrev mark : ℕ → ℕ → Bool
  mark t o = nat_le t o || is_on m o

  mark_on : (t o : ℕ) → is_on m t ≡ true → mark t o ≡ mark (t + 1) o
  mark_on t o on = go (o == t) refl
    where
      go : (b : Bool) → (o == t) ≡ b → mark t o ≡ mark (t + 1) o
      go false q = ap (λ b. b || is_on m o) (le_next t o q)
      go true q =
          let same : o ≡ t = grind (arith, nat_tests, q) in
          let up : is_on m o ≡ true = ap (is_on m) same ∙ on in
          (ap (λ b. nat_le t o || b) up ∙ or-true (nat_le t o)) ∙ sym (ap (λ b. nat_le (t + 1) o || b) up ∙ or-true (nat_le (t + 1) o))

  mark_off : (t o : ℕ) → is_on m t ≡ false → (mark t o && not (o == t)) ≡ mark (t + 1) o
  mark_off t o off = go (o == t) refl
    where
      go : (b : Bool) → (o == t) ≡ b → (mark t o && not (o == t)) ≡ mark (t + 1) o
      go false q = ap (λ b. mark t o && not b) q ∙ (and_true (mark t o) ∙ ap (λ b. b || is_on m o) (le_next t o q))
      go true q =
          let same : o ≡ t = grind (arith, nat_tests, q) in
          let down : is_on m o ≡ false = ap (is_on m) same ∙ off in
          let past : nat_le (t + 1) o ≡ false = grind (arith, nat_tests, same) in
          ap (λ b. mark t o && not b) q ∙ (and_false (mark t o) ∙ sym (λ i. past i || down i))

  pub shut_none : IsMap m → IsShutTo m 0 (empty_grid (m.tx * m.w) (m.ty * m.h))
  shut_none valid =
      let a = wide m valid in
      let b = high m valid in
      record {
        grid = record {
          wide = a.0;
          not_wider = a.1;
          high = b.0;
          not_higher = b.1;
          whole = length-replicate (m.tx * m.w * (m.ty * m.h)) empty_atom;
          marked = length-replicate (m.tx * m.w * (m.ty * m.h)) true;
          hidden = λ i lt dead. get_or-replicate (m.tx * m.w * (m.ty * m.h)) i empty_atom empty_atom (let long = length-replicate (m.tx * m.w * (m.ty * m.h)) true in omega (arith, lt, long));
        };
        wide = refl;
        high = refl;
        empty = refl;
        live = λ x y lx ly.
            let first : nat_le 0 (owner_of m (site x y)) ≡ true = grind (arith, nat_tests) in
            get_or-replicate (m.tx * m.w * (m.ty * m.h)) (y * (m.tx * m.w) + x) true false (mul-add-lt y (m.tx * m.w) x (m.ty * m.h) ly lx) ∙ sym (ap (λ b. b || is_on m (owner_of m (site x y))) first);
      }

  pub shut_all : IsMap m → (n : ℕ) (g : GridValue) → tiles_of m ≤ n → IsShutTo m n g → IsPlaneGrid m g
  shut_all valid n g all h = (h.grid, record { wide = h.wide; high = h.high; live = live })
    where
      live : (x y : ℕ) → x < g.width → y < g.height → get_or g.live (y * g.width + x) false ≡ is_live m (site x y)
      live x y lx ly =
          let inside = plane_test m x y (omega (arith, lx, h.wide)) (omega (arith, ly, h.high)) in
          let low = owner_low m valid (site x y) inside in
          let past : nat_le n (owner_of m (site x y)) ≡ false = grind (arith, nat_tests, low, all) in
          h.live x y lx ly ∙ (ap (λ b. b || is_on m (owner_of m (site x y))) past ∙ sym (ap (λ b. b && is_on m (owner_of m (site x y))) inside))

  module _ (t : ℕ) (g : GridValue) (h : IsShutTo m t g) where
    pub shut_on : is_on m t ≡ true → IsShutTo m (t + 1) g
    shut_on on = record { grid = h.grid; wide = h.wide; high = h.high; empty = h.empty; live = λ x y lx ly. h.live x y lx ly ∙ mark_on t (owner_of m (site x y)) on }

    pub empty_in : (r : _) → IsEmptyIn g r
    empty_in r u v lu lv inside = ap (λ atoms. get_or atoms (v * g.width + u) empty_atom) h.empty ∙ get_or-replicate (g.width * g.height) (v * g.width + u) empty_atom empty_atom (mul-add-lt v g.width u g.height lv lu)

    left_of_mark : (r : _) (x y : ℕ) → x < g.width → y < g.height → get_or (marks_outside g.live g.width r) (y * g.width + x) false ≡ (get_or g.live (y * g.width + x) false && not (is_inside r x y))
    unfolding marks_outside
    left_of_mark r x y lx ly =
        let i = y * g.width + x in
        let lt = mul-add-lt y g.width x g.height ly lx in
        let c = mod-mul-add y g.width x lx in
        let d = div-mul-add y g.width x lx in
        get_or-map-range_with_len (λ k. get_or g.live k false && not (is_inside r (k % g.width) (k / g.width))) 0 (length g.live) i i false (omega (arith, lt, h.grid.marked)) (omega arith)
        ∙ (λ j. get_or g.live (y * g.width + x) false && not (is_inside r (c j) (d j)))

    module _ (valid : IsMap m) (lt : t < tiles_of m) where
      shut_own : is_on m t ≡ false → IsShutTo m (t + 1) (shut g (rectangle (t % m.tx * m.w) (t / m.tx * m.h) m.w m.h))
      shut_own off = record {
        grid = IsGrid-shut g (rectangle (t % m.tx * m.w) (t / m.tx * m.h) m.w m.h) h.grid (empty_in (rectangle (t % m.tx * m.w) (t / m.tx * m.h) m.w m.h));
        wide = h.wide;
        high = h.high;
        empty = h.empty;
        live = λ x y lx ly.
            left_of_mark (rectangle (t % m.tx * m.w) (t / m.tx * m.h) m.w m.h) x y lx ly
            ∙ ((λ i. h.live x y lx ly i && not (owned_area m valid t x y lt (let e = h.wide in omega (arith, lx, e)) (let e = h.high in omega (arith, ly, e)) i))
            ∙ mark_off t (owner_of m (site x y)) off);
      }

      -- the rectangle of a tile that is off, from its first site on, is shut
      pub shut_area : (left top columns rows : ℕ) → site left top ≡ site_in m t 0 → columns ≡ m.w → rows ≡ m.h → is_on m t ≡ false → IsShutTo m (t + 1) (shut g (rectangle left top columns rows))
      shut_area left top columns rows at c r off =
          let p = left_top m valid t left top at in
          subst (λ a. IsShutTo m (t + 1) (shut g a)) (λ i. rectangle (sym p.0 i) (sym p.1 i) (sym c i) (sym r i)) (shut_own off)

      -- and lies in the plane
      pub area_fits : (left top columns rows : ℕ) → site left top ≡ site_in m t 0 → columns ≡ m.w → rows ≡ m.h → (left + columns ≤ g.width) × (top + rows ≤ g.height)
      area_fits left top columns rows at c r =
          let p = left_top m valid t left top at in
          let f = fits_area m valid t lt in
          let u = h.wide in let v = h.high in
          (omega (arith, f.0, p.0, c, u), omega (arith, f.1, p.1, r, v))
