-- Where the sites of a window lie, and which tiles hold one of them.
use Rattle.std.proofs.Common.{ℕ, zero, suc, ◌≡◌, ◌+◌, ◌-◌, ◌*◌, ◌/◌, ◌%◌, ◌<◌, ◌≤◌, Bool, true, false, ◌&&◌, length, get_or, refl, sym, ap, ◌∙◌, arith, ◌⊎◌, inl, inr, Option, Some, None, ltb-true}
use Rattle.std.specs.Prelude.{nat_le, nat_lt, ℤ, pos, negsuc, if◌then◌else◌}
use Rattle.std.specs.List.{range_with_len, list_any}
use Rattle.std.specs.Int.RustNames.{unsigned_abs}
use Rattle.std.proofs.lemmas.Bool.Decides.{nat_tests}
use Rattle.std.proofs.lemmas.List.Folds.{list_any_at}
use Rattle.std.proofs.lemmas.List.FromFn.{length-range_with_len, get_or-range_with_len}
use Rattle.window_sites.specs.Sites.{distance, offset_of, shift}
use Rattle.window_sites.proofs.Offsets.{offset-near, offset-found}
use Rattle.list_laws.proofs.Entries.{any_get}
use Rattle.std.proofs.lemmas.Nat.{rows}
use Rattle.tile_map.specs.Plane.{Site, MapValue, IsMap, site, is_on, in_plane, is_live, owner_of, is_held, apart, in_window}
use Rattle.tile_map.specs.Spans.{low, high, left_of, right_of, top_of, bottom_of, gap}
use Rattle.tile_map.specs.Edges.{live_site, window_site, is_held_at, reaches}
use Rattle.list_laws.proofs.Tests.{both, together}
use Rattle.tile_map.proofs.Spans.{le_test, test_le, reached_inside, held_span, held_parts, held_whole, live_plane, plane_test}

-- the offset from one coordinate to another
abbrev pub offset_to : ℕ → ℕ → ℤ
offset_to x u = if nat_le x u then pos (u - x) else negsuc (x - u - 1)

pub offset_to-abs : (x u : ℕ) → unsigned_abs (offset_to x u) ≡ apart x u
offset_to-abs x u = grind (arith, nat_tests)

pub shifted-offset_to : (x u : ℕ) → shift x (offset_to x u) ≡ Some u
shifted-offset_to x u = grind (arith, nat_tests)

pub shifted-apart : (x u : ℕ) (d : ℤ) → shift x d ≡ Some u → apart x u ≡ unsigned_abs d
shifted-apart x u (pos d) h = grind (arith, nat_tests, h)
shifted-apart x u (negsuc d) h = grind (arith, nat_tests, h)

some_is : {X : Type 0} (x y : X) → Some x ≡ Some y → x ≡ y
some_is x y h = cc (h)

-- a live site and the coordinates that it comes from
live_site_from : (m : MapValue) (u v : Option ℕ) (s : Site) → live_site m u v ≡ Some s → (u ≡ Some s.x) × (v ≡ Some s.y) × (is_live m s ≡ true)
live_site_from m None v s h = absurd (cc (h))
live_site_from m (Some u) None s h = absurd (cc (h))
live_site_from m (Some u) (Some v) s h = go (is_live m (site u v)) refl h
  where
    go : (b : Bool) → is_live m (site u v) ≡ b → (if b then Some (site u v) else None) ≡ Some s → (Some u ≡ Some s.x) × (Some v ≡ Some s.y) × (is_live m s ≡ true)
    go true is e = let same = some_is (site u v) s e in (ap (λ (q : Site). Some q.x) same, ap (λ (q : Site). Some q.y) same, sym (ap (is_live m) same) ∙ is)
    go false is e = absurd (cc (e))

live_site_of : (m : MapValue) (s : Site) → is_live m s ≡ true → live_site m (Some s.x) (Some s.y) ≡ Some s
live_site_of m s h = ap (λ b. if b then Some s else None) h

-- a live site of a window by its number is in the window
pub window_site-near : (m : MapValue) (c s : Site) (n : ℕ) → n ≤ 40 → window_site m c n ≡ Some s → in_window m c s ≡ true
window_site-near m c s n h e =
    let from = live_site_from m (shift c.x (offset_of n).0) (shift c.y (offset_of n).1) s e in
    let x = shifted-apart c.x s.x (offset_of n).0 from.0 in
    let y = shifted-apart c.y s.y (offset_of n).1 from.1 in
    let near : apart c.x s.x + apart c.y s.y ≤ 4 = omega (arith, x, y, offset-near n h) in
    together _ _ from.2 (le_test _ _ near)

-- a live site in the window has a number
pub window_site-found : (m : MapValue) (c s : Site) → in_window m c s ≡ true → (n : ℕ) × (n ≤ 40) × (window_site m c n ≡ Some s)
window_site-found m c s h =
    let parts = both _ _ h in
    let near : apart c.x s.x + apart c.y s.y ≤ 4 = test_le _ _ parts.1 in
    let o : ℤ × ℤ = (offset_to c.x s.x, offset_to c.y s.y) in
    let close : distance o ≤ 4 = omega (arith, near, offset_to-abs c.x s.x, offset_to-abs c.y s.y) in
    let n = offset-found o close in (
      n.0,
      n.1,
      ap (λ (p : ℤ × ℤ). live_site m (shift c.x p.0) (shift c.y p.1)) n.2
          ∙ (λ i. live_site m (shifted-offset_to c.x s.x i) (shifted-offset_to c.y s.y i))
          ∙ live_site_of m s parts.0,
    )

-- a tile reaches a window if it holds a live site of it
pub reaches-held : (m : MapValue) (c s : Site) (u : ℕ) → in_window m c s ≡ true → is_held m u s ≡ true → reaches m c u ≡ true
unfolding reaches
reaches-held m c s u h held =
    let n = window_site-found m c s h in
    let lt : n.0 < 41 = omega (arith, n.1) in
    let within : n.0 < length (range_with_len 0 41) = omega (arith, lt, length-range_with_len 0 41) in
    let number : get_or (range_with_len 0 41) n.0 0 ≡ n.0 = get_or-range_with_len 0 41 n.0 0 lt ∙ omega arith in
    list_any_at (λ n. is_held_at m u (window_site m c n)) (range_with_len 0 41) n.0 0 within
    (ap (λ k. is_held_at m u (window_site m c k)) number ∙ ap (is_held_at m u) n.2 ∙ held)

-- the same by the numbers of a window
pub reaches-at : (m : MapValue) (c : Site) (u n : ℕ) → n < 41 → is_held_at m u (window_site m c n) ≡ true → reaches m c u ≡ true
unfolding reaches
reaches-at m c u n lt held =
    let within : n < length (range_with_len 0 41) = omega (arith, lt, length-range_with_len 0 41) in
    let number : get_or (range_with_len 0 41) n 0 ≡ n = get_or-range_with_len 0 41 n 0 lt ∙ omega arith in
    list_any_at (λ n. is_held_at m u (window_site m c n)) (range_with_len 0 41) n 0 within (ap (λ k. is_held_at m u (window_site m c k)) number ∙ held)

pub reaches-none : (m : MapValue) (c : Site) (u : ℕ) → ((k : ℕ) → k < 41 → is_held_at m u (window_site m c k) ≡ false) → reaches m c u ≡ false
unfolding reaches
reaches-none m c u none = go (list_any (λ n. is_held_at m u (window_site m c n)) (range_with_len 0 41)) refl
  where
    go : (b : Bool) → list_any (λ n. is_held_at m u (window_site m c n)) (range_with_len 0 41) ≡ b → b ≡ false
    go false h = refl
    go true h =
        let k = any_get (λ n. is_held_at m u (window_site m c n)) (range_with_len 0 41) 0 h in
        let lt : k.0 < 41 = omega (arith, k.1, length-range_with_len 0 41) in
        let number : get_or (range_with_len 0 41) k.0 0 ≡ k.0 = get_or-range_with_len 0 41 k.0 0 lt ∙ omega arith in
        absurd (cc (ap (λ j. is_held_at m u (window_site m c j)) number, k.2, none k.0 lt))

held_at_some : (m : MapValue) (u : ℕ) (o : Option Site) → is_held_at m u o ≡ true → (s : Site) × (o ≡ Some s) × (is_held m u s ≡ true)
held_at_some m u None h = absurd (cc (h))
held_at_some m u (Some s) h = (s, refl, h)

pub reaches-some : (m : MapValue) (c : Site) (u : ℕ) → reaches m c u ≡ true → (s : Site) × (in_window m c s ≡ true) × (is_held m u s ≡ true)
unfolding reaches
reaches-some m c u h =
    let k = any_get (λ n. is_held_at m u (window_site m c n)) (range_with_len 0 41) 0 h in
    let lt : k.0 < 41 = omega (arith, k.1, length-range_with_len 0 41) in
    let number : get_or (range_with_len 0 41) k.0 0 ≡ k.0 = get_or-range_with_len 0 41 k.0 0 lt ∙ omega arith in
    let r = held_at_some m u (window_site m c k.0) (ap (λ j. is_held_at m u (window_site m c j)) (sym number) ∙ k.2) in
    (r.0, window_site-near m c r.0 k.0 (omega (arith, lt)) r.1, r.2)

pub window_apart : (m : MapValue) (c s : Site) → in_window m c s ≡ true → apart c.x s.x + apart c.y s.y ≤ 4
window_apart m c s h = test_le _ _ (both _ _ h).1

pub held_live : (m : MapValue) (t : ℕ) (s : Site) → is_held m t s ≡ true → is_live m s ≡ true
held_live m t s h = (held_parts m t s h).live

-- the nearest of an interval
nearest : (from end x : ℕ) → from < end → (u : ℕ) × (from ≤ u) × (u < end) × (apart x u ≡ gap from end x)
nearest from end x some = go (order x from) (order (x + 1) end)
  where
    order : (a b : ℕ) → (a < b) ⊎ (b ≤ a)
    order a b = grind arith

    go : (x < from) ⊎ (from ≤ x) → (x + 1 < end) ⊎ (end ≤ x + 1) → (u : ℕ) × (from ≤ u) × (u < end) × (apart x u ≡ gap from end x)
    go (inl h) k = (from, omega arith, some, omega (arith, h, some))
    go (inr h) (inl k) = (x, h, omega (arith, k), omega (arith, h, k))
    go (inr h) (inr k) = (end - 1, omega (arith, some), omega (arith, some), omega (arith, h, k, some))

pub div_is : (w a x : ℕ) → a * w ≤ x → x < (a + 1) * w → x / w ≡ a
div_is w a x p q = grind (arith, rows)

-- the nearest of what a tile reaches to a coordinate that is at most 4 away lies in the part of the coordinate
part_below : (w b x v : ℕ) → 8 ≤ w → v ≡ b * w - 4 → x < v → v ≤ x + 4 → v / w ≡ x / w
part_below w zero x v big is lt near = absurd (omega (arith, is, lt))
part_below w (suc b) x v big is lt near =
    div_is w b v (omega (arith, big, is, lt, near)) (omega (arith, big, is, lt, near)) ∙ sym (div_is w b x (omega (arith, big, is, lt, near)) (omega (arith, big, is, lt, near)))

part_above : (w b x v : ℕ) → 8 ≤ w → v ≡ (b + 1) * w + 3 → v < x → x ≤ v + 4 → v / w ≡ x / w
part_above w b x v big is lt near =
    div_is w (b + 1) v (omega (arith, big, is, lt, near)) (omega (arith, big, is, lt, near)) ∙ sym (div_is w (b + 1) x (omega (arith, big, is, lt, near)) (omega (arith, big, is, lt, near)))

same_part : (n w b x v : ℕ) → 8 ≤ w → x < n → low w b ≤ v → v < high n w b → apart x v ≡ gap (low w b) (high n w b) x → apart x v ≤ 4 → v / w ≡ x / w
same_part n w b x v big within from to is near = go (order x v)
  where
    order : (a b : ℕ) → (a ≡ b) ⊎ (a < b) ⊎ (b < a)
    order a b = grind arith

    go : (x ≡ v) ⊎ (x < v) ⊎ (v < x) → v / w ≡ x / w
    go (inl h) = ap (λ q. q / w) (sym h)
    go (inr (inl h)) = part_below w b x v big (omega (arith, h, from, to, is)) h (omega (arith, near))
    go (inr (inr h)) = part_above w b x v big (omega (arith, h, from, to, is, within)) h (omega (arith, near))

-- where the centre is live, the distance of what a tile reaches tells whether the tile holds a live site of the window
pub reaches-gap : (m : MapValue) → IsMap m → (c : Site) (u : ℕ) → is_live m c ≡ true → left_of m u < right_of m u → top_of m u < bottom_of m u →
    reaches m c u ≡ (is_on m u && nat_le (gap (left_of m u) (right_of m u) c.x + gap (top_of m u) (bottom_of m u) c.y) 4)
reaches-gap m k c u centre wide tall = same (reaches m c u) (is_on m u && nat_le (gap (left_of m u) (right_of m u) c.x + gap (top_of m u) (bottom_of m u) c.y) 4) there back
  where
    same : (a b : Bool) → (a ≡ true → b ≡ true) → (b ≡ true → a ≡ true) → a ≡ b
    same true b p q = sym (p refl)
    same false true p q = q refl
    same false false p q = refl

    there : reaches m c u ≡ true → (is_on m u && nat_le (gap (left_of m u) (right_of m u) c.x + gap (top_of m u) (bottom_of m u) c.y) 4) ≡ true
    there h =
        let r = reaches-some m c u h in
        let near : apart c.x r.0.x + apart c.y r.0.y ≤ 4 = window_apart m c r.0 r.1 in
        let span = held_span m u r.0.x r.0.y r.2 in
        together _ _ (held_parts m u r.0 r.2).on (le_test _ _ (omega (arith, near, span.1, span.2, span.3, span.4)))

    back : (is_on m u && nat_le (gap (left_of m u) (right_of m u) c.x + gap (top_of m u) (bottom_of m u) c.y) 4) ≡ true → reaches m c u ≡ true
    back h =
        let parts = both (is_on m u) (nat_le (gap (left_of m u) (right_of m u) c.x + gap (top_of m u) (bottom_of m u) c.y) 4) h in
        let near = test_le (gap (left_of m u) (right_of m u) c.x + gap (top_of m u) (bottom_of m u) c.y) 4 parts.1 in
        let inside = both (nat_lt c.x (m.tx * m.w)) (nat_lt c.y (m.ty * m.h)) (live_plane m c centre) in
        let x = nearest (left_of m u) (right_of m u) c.x wide in
        let y = nearest (top_of m u) (bottom_of m u) c.y tall in
        let column : x.0 / m.w ≡ c.x / m.w = same_part (m.tx * m.w) m.w (u % m.tx) c.x x.0 k.sizes.w_low (ltb-true c.x (m.tx * m.w) inside.0) x.1 x.2 x.3 (omega (arith, near, x.3)) in
        let row : y.0 / m.h ≡ c.y / m.h = same_part (m.ty * m.h) m.h (u / m.tx) c.y y.0 k.sizes.h_low (ltb-true c.y (m.ty * m.h) inside.1) y.1 y.2 y.3 (omega (arith, near, y.3)) in
        let owner : owner_of m (site x.0 y.0) ≡ owner_of m c = λ i. row i * m.tx + column i in
        let plane = plane_test m x.0 y.0 (omega (arith, x.2)) (omega (arith, y.2)) in
        let live : is_live m (site x.0 y.0) ≡ true = together (in_plane m (site x.0 y.0)) (is_on m (owner_of m (site x.0 y.0))) plane (ap (is_on m) owner ∙ (both (in_plane m c) (is_on m (owner_of m c)) centre).1) in
        let held = held_whole m u (site x.0 y.0) parts.0 live (reached_inside m u x.0 y.0 x.1 x.2 y.1 y.2) in
        let close : apart c.x x.0 + apart c.y y.0 ≤ 4 = omega (arith, near, x.3, y.3) in
        reaches-held m c (site x.0 y.0) u (together (is_live m (site x.0 y.0)) (nat_le (apart c.x x.0 + apart c.y y.0) 4) live (le_test (apart c.x x.0 + apart c.y y.0) 4 close)) held
