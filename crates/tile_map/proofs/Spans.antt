-- The columns, or rows, that a tile holds: an interval of the plane's.
use Rattle.std.proofs.Common.{ℕ, ◌≡◌, ◌+◌, ◌*◌, ◌/◌, ◌%◌, ◌<◌, ◌≤◌, min, max, true, false, arith, lt-ltb, ltb-true}
use Rattle.std.specs.Prelude.{nat_le}
use Rattle.std.proofs.lemmas.Bool.{and_left, and_right}
use Rattle.std.proofs.lemmas.Bool.Decides.{nat_tests}
use Rattle.tile_map.specs.Spans.{low, high, left_of, right_of, top_of, bottom_of}
use Rattle.tile_map.specs.Plane.{Site, MapValue, site, tiles_of, is_on, in_plane, is_live, is_around, is_reached, is_held}
use Rattle.list_laws.proofs.Tests.{both, together}

pub le_test : (a b : ℕ) → a ≤ b → nat_le a b ≡ true
le_test a b h = grind (arith, nat_tests)

pub test_le : (a b : ℕ) → nat_le a b ≡ true → a ≤ b
test_le a b h = grind (arith, nat_tests)

pub around_inside : (n size a x : ℕ) → low size a ≤ x → x < high n size a → is_around size a x ≡ true
around_inside n size a x p q = grind (arith, nat_tests)

pub around_below : (size a x : ℕ) → x < low size a → is_around size a x ≡ false
around_below size a x p = grind (arith, nat_tests)

pub around_above : (n size a x : ℕ) → high n size a ≤ x → x < n → is_around size a x ≡ false
around_above n size a x p q = grind (arith, nat_tests)

pub around_span : (n size a x : ℕ) → is_around size a x ≡ true → x < n → (low size a ≤ x) × (x < high n size a)
around_span n size a x p q = grind (arith, nat_tests)

pub times_more : (a b w : ℕ) → a ≤ b → a * w ≤ b * w
times_more a b w le = grind arith

-- two parts that are one or stand side by side hold something together
pub spans_meet : (n size a b k : ℕ) → 8 ≤ size → a < k → b < k → n ≡ k * size → a ≤ b + 1 → b ≤ a + 1 → max (low size a) (low size b) ≤ min (high n size a) (high n size b)
spans_meet n size a b k big p q whole x y =
    omega (arith, big, whole, times_more (a + 1) k size (omega (arith, p)), times_more (b + 1) k size (omega (arith, q)), times_more a (b + 1) size x, times_more b (a + 1) size y)

-- what lies in the columns and rows that a tile reaches, and in no other
pub reached_inside : (m : MapValue) (t x y : ℕ) → left_of m t ≤ x → x < right_of m t → top_of m t ≤ y → y < bottom_of m t → is_reached m t (site x y) ≡ true
reached_inside m t x y a b c d = together _ _ (around_inside (m.tx * m.w) m.w (t % m.tx) x a b) (around_inside (m.ty * m.h) m.h (t / m.tx) y c d)

pub reached_span : (m : MapValue) (t x y : ℕ) → is_reached m t (site x y) ≡ true → in_plane m (site x y) ≡ true → (left_of m t ≤ x) × (x < right_of m t) × (top_of m t ≤ y) × (y < bottom_of m t)
reached_span m t x y h inside =
    let near = both _ _ h in
    let within = both _ _ inside in
    let p = around_span (m.tx * m.w) m.w (t % m.tx) x near.0 (ltb-true _ _ within.0) in
    let q = around_span (m.ty * m.h) m.h (t / m.tx) y near.1 (ltb-true _ _ within.1) in
    (p.0, p.1, q.0, q.1)

pub not_left : (m : MapValue) (t x y : ℕ) → x < left_of m t → is_reached m t (site x y) ≡ false
not_left m t x y h = and_left _ _ (around_below m.w (t % m.tx) x h)

pub not_right : (m : MapValue) (t x y : ℕ) → right_of m t ≤ x → x < m.tx * m.w → is_reached m t (site x y) ≡ false
not_right m t x y h lt = and_left _ _ (around_above (m.tx * m.w) m.w (t % m.tx) x h lt)

pub not_above : (m : MapValue) (t x y : ℕ) → y < top_of m t → is_reached m t (site x y) ≡ false
not_above m t x y h = and_right _ _ (around_below m.h (t / m.tx) y h)

pub not_under : (m : MapValue) (t x y : ℕ) → bottom_of m t ≤ y → y < m.ty * m.h → is_reached m t (site x y) ≡ false
not_under m t x y h lt = and_right _ _ (around_above (m.ty * m.h) m.h (t / m.tx) y h lt)

pub plane_test : (m : MapValue) (x y : ℕ) → x < m.tx * m.w → y < m.ty * m.h → in_plane m (site x y) ≡ true
plane_test m x y a b = together _ _ (lt-ltb _ _ a) (lt-ltb _ _ b)

-- what is held: its tile is on, it is live, and it is reached
pub record Held (m : MapValue) (t : ℕ) (s : Site) : Type 0 where
  pub on : is_on m t ≡ true
  pub live : is_live m s ≡ true
  pub reached : is_reached m t s ≡ true

pub held_parts : (m : MapValue) (t : ℕ) (s : Site) → is_held m t s ≡ true → Held m t s
held_parts m t s h =
    let p = both _ _ h in
    let q = both _ _ p.1 in
    record { on = p.0; live = q.0; reached = q.1 }

pub held_whole : (m : MapValue) (t : ℕ) (s : Site) → is_on m t ≡ true → is_live m s ≡ true → is_reached m t s ≡ true → is_held m t s ≡ true
held_whole m t s a b c = together _ _ a (together _ _ b c)

pub on_low : (m : MapValue) (t : ℕ) → is_on m t ≡ true → t < tiles_of m
on_low m t h = ltb-true _ _ (both _ _ h).0

pub live_plane : (m : MapValue) (s : Site) → is_live m s ≡ true → in_plane m s ≡ true
live_plane m s h = (both _ _ h).0

pub held_span : (m : MapValue) (t x y : ℕ) → is_held m t (site x y) ≡ true → (t < tiles_of m) × (left_of m t ≤ x) × (x < right_of m t) × (top_of m t ≤ y) × (y < bottom_of m t)
held_span m t x y h =
    let p = held_parts m t (site x y) h in
    let s = reached_span m t x y p.reached (live_plane m (site x y) p.live) in
    (on_low m t p.on, s.0, s.1, s.2, s.3)
