-- The laws of the plane.
use Rattle.std.proofs.Common.{ℕ, ◌≡◌, ◌≢◌, ◌+◌, ◌-◌, ◌*◌, ◌/◌, ◌%◌, ◌<◌, ◌≤◌, Bool, true, false, not, ◌&&◌, ◌==◌, List, length, get_or, map, refl, sym, ap, ◌∙◌, subst, arith, ◌⊎◌, inl, inr, ⊎_elim, Some, lt-ltb, ltb-true}
use Rattle.std.specs.Prelude.{All, ◌||◌, filter, Contains, slice_get, if◌then◌else◌}
use Rattle.std.specs.List.{range_with_len}
use Rattle.std.specs.List.Sorted.{IsStrictlyIncreasing}
use Rattle.std.proofs.lemmas.Bool.Decides.{nat_tests}
use Rattle.std.proofs.lemmas.Nat.{rows}
use Rattle.tile_map.specs.Plane.{Site, MapValue, IsMap, site, tiles_of, in_plane, is_on, is_whole, is_live, sites_of, is_inside, is_around, is_owned, owner_of, site_in, is_reached, is_held, in_window, apart}
use Rattle.tile_map.specs.Edges.{pairs_of, pair_at, low_end, high_end, shared_of, edges_at, needs_of, is_needed, reaches, has_end, other_end}
use Rattle.tile_map.specs.Laws.{Joins, Shares, HasOwners, HasWindows, HasEdges, HasRegisters, HasNeeds, IsPlane}
use Rattle.list_laws.proofs.Filters.{filter_twice, filter_short}
use Rattle.list_laws.proofs.Entries.{all_get}
use Rattle.list_laws.proofs.Tests.{both, together}
use Rattle.tile_map.proofs.Spans.{le_test, times_more, held_span, held_parts, held_whole, live_plane, on_low}
use Rattle.std.proofs.lemmas.List.Kept.{IsStrictlyIncreasing-filter}
use Rattle.std.proofs.lemmas.List.FromFn.{length-range_with_len, get_or-range_with_len, length-map-range_with_len, get_or-map-range_with_len}
use Rattle.std.proofs.lemmas.List.{get_or_default}
use Rattle.std.proofs.lemmas.Option.{slice_get-get_or, get_or_from_slice_get, slice_get_within}
use Rattle.tile_map.proofs.Near.{window_site-near, window_site-found, window_apart, held_live, reaches-held, reaches-some}
use Rattle.tile_map.proofs.Blocks.{block_length, block_get, IsBlock, filter_block}
use Rattle.tile_map.specs.Tables.{row, block}
use Rattle.list_laws.proofs.Members.{In, in_filter, filter_in, in_map, in_flat, in_range, range_in, in_get, get_in}
use Rattle.tile_map.proofs.Pairs.{edge_joined, joined_on, edge_of, one_edge, pairs_rise, pairs_bounded, holders_near, edges_at-few}
use Rattle.tile_map.proofs.Sharing.{column_low, row_low}
use Rattle.tile_map.proofs.Registers.{shared_once, register_found, register_shared}

column_of : (tx q r : ℕ) → r < tx → (q * tx + r) % tx ≡ r
column_of tx q r lt = grind (arith, rows)

row_of : (tx q r : ℕ) → r < tx → (q * tx + r) / tx ≡ q
row_of tx q r lt = grind (arith, rows)

quotient_low : (n w x : ℕ) → 0 < w → x < n * w → x / w < n
quotient_low n w x some lt = grind (arith, rows)

place_low : (q r tx ty : ℕ) → r < tx → q < ty → q * tx + r < tx * ty
place_low q r tx ty a b = grind (arith, rows)

inside_part : (w x : ℕ) → 0 < w → is_inside w (x / w) x ≡ true
inside_part w x some = grind (arith, rows, nat_tests)

around_part : (w x y : ℕ) → 0 < w → apart x y ≤ 4 → is_around w (x / w) y ≡ true
around_part w x y some near = grind (arith, rows, nat_tests)

part_of : (w a x : ℕ) → is_inside w a x ≡ true → x / w ≡ a
part_of w a x h = grind (arith, rows, nat_tests)

-- where the owner of a live site stands
record OwnerPlace (m : MapValue) (s : Site) : Type 0 where
  pub tile : owner_of m s < tiles_of m
  pub column : owner_of m s % m.tx ≡ s.x / m.w
  pub row : owner_of m s / m.tx ≡ s.y / m.h

stands : (m : MapValue) → IsMap m → (s : Site) → in_plane m s ≡ true → OwnerPlace m s
stands m k s h =
    let parts = both _ _ h in
    let x = quotient_low m.tx m.w s.x (omega (arith, k.sizes.w_low)) (ltb-true s.x (m.tx * m.w) parts.0) in
    let y = quotient_low m.ty m.h s.y (omega (arith, k.sizes.h_low)) (ltb-true s.y (m.ty * m.h) parts.1) in
    record {
      tile = place_low (s.y / m.h) (s.x / m.w) m.tx m.ty x y;
      column = column_of m.tx (s.y / m.h) (s.x / m.w) x;
      row = row_of m.tx (s.y / m.h) (s.x / m.w) x;
    }

pub owner_owned : (m : MapValue) → IsMap m → (s : Site) → in_plane m s ≡ true → is_owned m (owner_of m s) s ≡ true
owner_owned m k s h =
    let o = stands m k s h in
    let x = ap (λ a. is_inside m.w a s.x) o.column ∙ inside_part m.w s.x (omega (arith, k.sizes.w_low)) in
    let y = ap (λ a. is_inside m.h a s.y) o.row ∙ inside_part m.h s.y (omega (arith, k.sizes.h_low)) in
    together _ _ (lt-ltb _ _ o.tile) (together _ _ x y)

-- the owner of a centre holds the window
pub window-held : (m : MapValue) → IsMap m → (c s : Site) → is_live m c ≡ true → in_window m c s ≡ true → is_held m (owner_of m c) s ≡ true
window-held m k c s h near =
    let o = stands m k c (live_plane m c h) in
    let close = window_apart m c s near in
    let x = ap (λ a. is_around m.w a s.x) o.column ∙ around_part m.w c.x s.x (omega (arith, k.sizes.w_low)) (omega (arith, close)) in
    let y = ap (λ a. is_around m.h a s.y) o.row ∙ around_part m.h c.y s.y (omega (arith, k.sizes.h_low)) (omega (arith, close)) in
    held_whole m (owner_of m c) s (both _ _ h).1 (both _ _ near).0 (together _ _ x y)

centre-near : (m : MapValue) (s : Site) → is_live m s ≡ true → in_window m s s ≡ true
centre-near m s h = together _ _ h (le_test _ _ (omega arith))

pub owner-one : (m : MapValue) (t : ℕ) (s : Site) → is_owned m t s ≡ true → t ≡ owner_of m s
owner-one m t s h =
    let parts = both _ _ (both _ _ h).1 in
    let x = part_of m.w (t % m.tx) s.x parts.0 in
    let y = part_of m.h (t / m.tx) s.y parts.1 in
    whole t m.tx ∙ λ i. sym y i * m.tx + sym x i
  where
    whole : (t tx : ℕ) → t ≡ t / tx * tx + t % tx
    whole t tx = grind (arith, rows)

owned_block : (m : MapValue) → IsMap m → (t : ℕ) → t < tiles_of m → IsBlock (is_owned m t) (m.tx * m.w) (m.ty * m.h) (t % m.tx * m.w) ((t % m.tx + 1) * m.w) (t / m.tx * m.h) ((t / m.tx + 1) * m.h)
owned_block m k t lt =
    let x = column_low m k t lt in
    let y = row_low m k t lt in
    record {
      across = times_more (t % m.tx) (t % m.tx + 1) m.w (omega arith);
      across_end = times_more (t % m.tx + 1) m.tx m.w (omega (arith, x));
      down = times_more (t / m.tx) (t / m.tx + 1) m.h (omega arith);
      down_end = times_more (t / m.tx + 1) m.ty m.h (omega (arith, y));
      within = λ u v a b c d. grind (arith, nat_tests);
      left = λ u v h. grind (arith, nat_tests);
      right = λ u v h b. grind (arith, nat_tests);
      above = λ u v h. grind (arith, nat_tests);
      under = λ u v h b. grind (arith, nat_tests);
    }

one_part : (a w : ℕ) → (a + 1) * w - a * w ≡ w
one_part a w = omega arith

pub positions : (m : MapValue) → IsMap m → (t k : ℕ) → t < tiles_of m → k < m.w * m.h → slice_get (filter (is_owned m t) (sites_of m)) k ≡ Some (site_in m t k)
positions m valid t k lt small =
    let a = t % m.tx in
    let b = t / m.tx in
    let r : (k ≡ k / m.w * m.w + k % m.w) × (k / m.w < m.h) × (k % m.w < m.w) = grind (arith, rows, valid.sizes.w_low) in
    let whole : filter (is_owned m t) (sites_of m) ≡ block (a * m.w) m.w (b * m.h) m.h =
    filter_block m (is_owned m t) (a * m.w) ((a + 1) * m.w) (b * m.h) ((b + 1) * m.h) (owned_block m valid t lt) ∙ (λ i. block (a * m.w) (one_part a m.w i) (b * m.h) (one_part b m.h i)) in
    let long : k < length (block (a * m.w) m.w (b * m.h) m.h) = omega (arith, small, block_length (a * m.w) m.w (b * m.h) m.h) in
    ap (λ xs. slice_get xs k) whole
    ∙ slice_get-get_or (block (a * m.w) m.w (b * m.h) m.h) k (site 0 0) long
    ∙ ap Some (ap (λ j. get_or (block (a * m.w) m.w (b * m.h) m.h) j (site 0 0)) r.0 ∙ block_get (a * m.w) m.w (b * m.h) m.h (k / m.w) (k % m.w) (site 0 0) r.1 r.2)

pub owners : (m : MapValue) → IsMap m → HasOwners m
owners m k = record {
  owner = λ s h. owner_owned m k s (live_plane m s h);
  holder = λ s h. window-held m k s s h (centre-near m s h);
  one = owner-one m;
  positions = positions m k;
  window = window-held m k;
  bounds = λ t s h. let p = held_span m t s.x s.y h in (p.1, p.2, p.3, p.4);
  off = λ t s h. ap (λ b. b && (is_live m s && is_reached m t s)) h;
}

pub windows : (m : MapValue) → HasWindows m
windows m = record { number = window_site-found m; site = window_site-near m }

-- a place of the shared sites, as a member
shared_place : (m : MapValue) (e k : ℕ) (s : Site) → slice_get (shared_of m e) k ≡ Some s → In s (shared_of m e)
shared_place m e k s h = subst (λ q. In q (shared_of m e)) (get_or_from_slice_get (shared_of m e) k s s h) (in_get (shared_of m e) k s (slice_get_within (shared_of m e) k s h))

both_hold : (m : MapValue) (e k : ℕ) (s : Site) → slice_get (shared_of m e) k ≡ Some s → (is_held m (low_end m e) s ≡ true) × (is_held m (high_end m e) s ≡ true)
both_hold m e k s h = both _ _ (filter_in (λ s. is_held m (low_end m e) s && is_held m (high_end m e) s) (sites_of m) s (shared_place m e k s h)).1

in_sites : (m : MapValue) (s : Site) → in_plane m s ≡ true → In s (sites_of m)
in_sites m s h =
    let x : s.x < m.tx * m.w = ltb-true _ _ (both _ _ h).0 in
    let y : s.y < m.ty * m.h = ltb-true _ _ (both _ _ h).1 in
    in_flat (row 0 (m.tx * m.w)) (range_with_len 0 (m.ty * m.h)) s.y s (in_range 0 (m.ty * m.h) s.y (omega arith) (omega (arith, y)))
    (in_map (λ x. site x s.y) (range_with_len 0 (m.tx * m.w)) s.x (in_range 0 (m.tx * m.w) s.x (omega arith) (omega (arith, x))))

shares_held : (m : MapValue) (e : ℕ) (s : Site) → is_held m (low_end m e) s ≡ true → is_held m (high_end m e) s ≡ true → Shares m e s
shares_held m e s a b =
    let member = in_filter (λ s. is_held m (low_end m e) s && is_held m (high_end m e) s) (sites_of m) s (in_sites m s (live_plane m s (held_live m (low_end m e) s a))) (together _ _ a b) in
    let place = get_in (shared_of m e) s s member in
    (place.0, slice_get-get_or (shared_of m e) place.0 s place.1 ∙ ap Some place.2)

tile_low : (m : MapValue) (t : ℕ) (s : Site) → is_held m t s ≡ true → t < tiles_of m
tile_low m t s h = on_low m t (held_parts m t s h).on

meet_low : (m : MapValue) → IsMap m → (t u : ℕ) (s : Site) → t < u → is_held m t s ≡ true → is_held m u s ≡ true → (e : ℕ) × (e < length (pairs_of m)) × (low_end m e ≡ t) × (high_end m e ≡ u) × Shares m e s
meet_low m k t u s lt a b =
    let p = edge_of m t u (tile_low m t s a) (tile_low m u s b) (holders_near m k t u s lt a b) in
    let l : low_end m p.0 ≡ t = ap (λ (q : ℕ × ℕ). q.0) p.2 in
    let h : high_end m p.0 ≡ u = ap (λ (q : ℕ × ℕ). q.1) p.2 in
    (p.0, p.1, l, h, shares_held m p.0 s (subst (λ q. is_held m q s ≡ true) (sym l) a) (subst (λ q. is_held m q s ≡ true) (sym h) b))

order_of : (t u : ℕ) → t ≢ u → (t < u) ⊎ (u < t)
order_of t u ne = grind arith

pub meet : (m : MapValue) → IsMap m → (t u : ℕ) (s : Site) → t ≢ u → is_held m t s ≡ true → is_held m u s ≡ true → (e : ℕ) × (e < length (pairs_of m)) × Joins m e t u × Shares m e s
meet m k t u s ne a b =
    ⊎_elim (λ lt. let r = meet_low m k t u s lt a b in (r.0, r.1, inl (r.2, r.3), r.4)) (λ lt. let r = meet_low m k u t s lt b a in (r.0, r.1, inr (r.2, r.3), r.4)) (order_of t u ne)

pub ends_rise : (m : MapValue) (e : ℕ) → e < length (pairs_of m) → (low_end m e < high_end m e) × (high_end m e < tiles_of m)
ends_rise m e lt =
    let j = edge_joined m e lt in
    (ltb-true _ _ (both _ _ (both _ _ j.near).1).0, j.high)

same_ends : (m : MapValue) (e f t u : ℕ) → low_end m e < high_end m e → low_end m f < high_end m f → Joins m e t u → Joins m f t u → pair_at m e ≡ pair_at m f
same_ends m e f t u a b p q = let r = ends p q in λ i. (r.0 i, r.1 i)
  where
    ends : Joins m e t u → Joins m f t u → (low_end m e ≡ low_end m f) × (high_end m e ≡ high_end m f)
    ends (inl p) (inl q) = (p.0 ∙ sym q.0, p.1 ∙ sym q.1)
    ends (inr p) (inr q) = (p.0 ∙ sym q.0, p.1 ∙ sym q.1)
    ends (inl p) (inr q) = absurd (omega (arith, a, b, p.0, p.1, q.0, q.1))
    ends (inr p) (inl q) = absurd (omega (arith, a, b, p.0, p.1, q.0, q.1))

edge_one : (m : MapValue) (e f t u : ℕ) → e < length (pairs_of m) → f < length (pairs_of m) → Joins m e t u → Joins m f t u → e ≡ f
edge_one m e f t u a b p q = one_edge m e f a b (same_ends m e f t u (ends_rise m e a).0 (ends_rise m f b).0 p q)

pub edges : (m : MapValue) → IsMap m → HasEdges m
edges m k = record {
  few = pairs_bounded m k;
  sorted = pairs_rise m;
  ends = ends_rise m;
  meet = meet m k;
  one = edge_one m;
  held = both_hold m;
  once = λ e i j s lt. shared_once m e i j s;
  on = λ e lt. joined_on m (pair_at m e) (edge_joined m e lt);
}

pub needs-few : (m : MapValue) → IsMap m → (t : ℕ) (c : Site) → t < tiles_of m → length (needs_of m t c) ≤ 8
needs-few m k t c lt =
    let all = range_with_len 0 (length (pairs_of m)) in
    let reach : ℕ → Bool = λ e. reaches m c (other_end m t e) in
    omega (arith, ap length (filter_twice (has_end m t) reach all), filter_short reach (filter (has_end m t) all), edges_at-few m k t lt)

range-rising : (n : ℕ) → IsStrictlyIncreasing (range_with_len 0 n)
range-rising n k lt =
    let long = length-range_with_len 0 n in
    let a = get_or-range_with_len 0 n k 0 (omega (arith, lt, long)) in
    let b = get_or-range_with_len 0 n (k + 1) 0 (omega (arith, lt, long)) in
    omega (arith, a, b)

needs-rising : (m : MapValue) (t : ℕ) (c : Site) → IsStrictlyIncreasing (needs_of m t c)
needs-rising m t c = IsStrictlyIncreasing-filter (is_needed m t c) (range_with_len 0 (length (pairs_of m))) (range-rising (length (pairs_of m)))

-- the tests on an edge between t and u
joins_end : (m : MapValue) (e t u : ℕ) → t ≢ u → Joins m e t u → (has_end m t e ≡ true) × (other_end m t e ≡ u)
joins_end m e t u ne (inl p) = (grind (arith, nat_tests, p.0), grind (arith, nat_tests, p.0, p.1))
joins_end m e t u ne (inr p) = (grind (arith, nat_tests, p.1), grind (arith, nat_tests, p.0, p.1, ne))

end_joins : (m : MapValue) (e t : ℕ) → low_end m e < high_end m e → has_end m t e ≡ true → Joins m e t (other_end m t e) × (t ≢ other_end m t e)
end_joins m e t rise h = go (low_end m e == t) (high_end m e == t) refl refl h
  where
    same : (a b : ℕ) → (a == b) ≡ true → a ≡ b
    same a b h = grind (arith, nat_tests)

    go : (a b : Bool) → (low_end m e == t) ≡ a → (high_end m e == t) ≡ b → (a || b) ≡ true → Joins m e t (if a then high_end m e else low_end m e) × (t ≢ (if a then high_end m e else low_end m e))
    go true b p q h = (inl (same _ _ p, refl), λ r. omega (arith, same _ _ p, rise, r))
    go false true p q h = (inr (refl, same _ _ q), λ r. omega (arith, same _ _ q, rise, r))
    go false false p q h = absurd (cc (h))

needed_edge : (m : MapValue) → IsMap m → (c s : Site) (u : ℕ) → is_live m c ≡ true → in_window m c s ≡ true → owner_of m c ≢ u → is_held m u s ≡ true →
    (e : ℕ) × Contains (needs_of m (owner_of m c) c) e × Joins m e (owner_of m c) u × Shares m e s
needed_edge m k c s u live near ne held =
    let t = owner_of m c in
    let r = meet m k t u s ne (window-held m k c s live near) held in
    let e = r.0 in
    let j = joins_end m e t u ne r.2 in
    let reach : reaches m c (other_end m t e) ≡ true = ap (reaches m c) j.1 ∙ reaches-held m c s u near held in
    let member = in_filter (is_needed m t c) (range_with_len 0 (length (pairs_of m))) e (in_range 0 (length (pairs_of m)) e (omega arith) (omega (arith, r.1))) (together _ _ j.0 reach) in
    (e, get_in (needs_of m t c) e e member, r.2, r.3)

need_cause : (m : MapValue) (t : ℕ) (c : Site) (e : ℕ) → Contains (needs_of m t c) e →
    (u : ℕ) × (s : Site) × (e < length (pairs_of m)) × Joins m e t u × (t ≢ u) × (in_window m c s ≡ true) × (is_held m u s ≡ true)
need_cause m t c e h =
    let member = subst (λ x. In x (needs_of m t c)) h.2 (in_get (needs_of m t c) h.0 e h.1) in
    let parts = filter_in (is_needed m t c) (range_with_len 0 (length (pairs_of m))) e member in
    let low : e < length (pairs_of m) = omega (arith, (range_in 0 (length (pairs_of m)) e parts.0).1) in
    let tests = both _ _ parts.1 in
    let j = end_joins m e t (ends_rise m e low).0 tests.0 in
    let r = reaches-some m c (other_end m t e) tests.1 in
    (other_end m t e, r.0, low, j.0, j.1, r.1, r.2)

pub needs : (m : MapValue) → IsMap m → HasNeeds m
needs m k = record {
  few = needs-few m k;
  rising = needs-rising m;
  needed = needed_edge m k;
  cause = need_cause m;
}

pub registers : (m : MapValue) → HasRegisters m
registers m = record {
  found = λ e k s lt. register_found m e k s;
  shared = register_shared m;
}

-- all the laws
pub plane : (m : MapValue) → IsMap m → IsPlane m
plane m k = record { owners = owners m k; windows = windows m; edges = edges m k; registers = registers m; needs = needs m k }

-- what a map reads of an edge's ends
pub pair_rises : (m n : MapValue) (items : List (ℕ × ℕ)) (e : ℕ) (p : ℕ × ℕ) → n ≡ m → items ≡ pairs_of n → e < length (pairs_of m) → p ≡ get_or items e p → (p.0 < p.1) × (p.1 < tiles_of m)
pair_rises m n items e p same is lt read =
    let whole : items ≡ pairs_of m = is ∙ ap pairs_of same in
    let pair : p ≡ pair_at m e = read ∙ ap (λ xs. get_or xs e p) whole ∙ get_or_default (pairs_of m) e p (tiles_of m, tiles_of m + 1) lt in
    subst (λ (q : ℕ × ℕ). (q.0 < q.1) × (q.1 < tiles_of m)) (sym pair) (ends_rise m e lt)

-- the edges of a tile are edges
pub edges_low : (m : MapValue) (t : ℕ) (es : List ℕ) → es ≡ edges_at m t → All (λ e. e < length (pairs_of m)) es
edges_low m t es is k d lt =
    let member = subst (In (get_or es k d)) is (in_get es k d lt) in
    let parts = filter_in (has_end m t) (range_with_len 0 (length (pairs_of m))) (get_or es k d) member in
    omega (arith, (range_in 0 (length (pairs_of m)) (get_or es k d) parts.0).1)

-- what a map reads of a tile's edges
pub around_long : (m n : MapValue) (lists : List (List ℕ)) (t : ℕ) → n ≡ m → lists ≡ map (edges_at n) (range_with_len 0 (tiles_of n)) → t < tiles_of m → t < length lists
around_long m n lists t same is lt = omega (arith, ap tiles_of same, ap length is, length-map-range_with_len (edges_at n) 0 (tiles_of n), lt)

pub around_read : (m n : MapValue) (lists : List (List ℕ)) (t : ℕ) (p : List ℕ) → n ≡ m → lists ≡ map (edges_at n) (range_with_len 0 (tiles_of n)) → t < tiles_of m → p ≡ get_or lists t p → p ≡ edges_at m t
around_read m n lists t p same is lt read =
    read ∙ ap (λ xs. get_or xs t p) is ∙ get_or-map-range_with_len (edges_at n) 0 (tiles_of n) t t p (omega (arith, ap tiles_of same, lt)) (omega arith) ∙ ap (λ q. edges_at q t) same

pub around_few : (m n : MapValue) (t : ℕ) (es : List ℕ) → n ≡ m → IsMap n → t < tiles_of m → es ≡ edges_at m t → length es ≤ 8
around_few m n t es same k lt is = omega (arith, ap length is, edges_at-few m (subst IsMap same k) t lt)

pub owner_low : (m : MapValue) → IsMap m → (s : Site) → in_plane m s ≡ true → owner_of m s < tiles_of m
owner_low m k s h = (stands m k s h).tile

-- where no tile is off, that of each site is on
pub whole_on : (m : MapValue) → IsMap m → is_whole m ≡ true → (s : Site) → in_plane m s ≡ true → is_on m (owner_of m s) ≡ true
whole_on m k whole s h =
    let low = owner_low m k s h in
    together _ _ (lt-ltb _ _ low) (all_get not m.off (owner_of m s) false whole (omega (arith, low, k.marks)))

-- what is known of a position of a rectangle
pub record SitePlace (m : MapValue) (t k : ℕ) : Type 0 where
  pub owned : is_owned m t (site_in m t k) ≡ true
  pub x : (site_in m t k).x < m.tx * m.w
  pub y : (site_in m t k).y < m.ty * m.h

pub site_place : (m : MapValue) → IsMap m → (t k : ℕ) → t < tiles_of m → k < m.w * m.h → SitePlace m t k
site_place m valid t k lt small =
    let column = column_low m valid t lt in
    let row = row_low m valid t lt in
    let r : (k / m.w < m.h) × (k % m.w < m.w) = grind (arith, rows, valid.sizes.w_low) in
    let inside : (a size j : ℕ) → j < size → is_inside size a (a * size + j) ≡ true = λ a size j lt. together _ _ (le_test (a * size) (a * size + j) (omega arith)) (lt-ltb (a * size + j) ((a + 1) * size) (omega (arith, lt))) in
    record {
      owned = together _ _ (lt-ltb _ _ lt) (together _ _ (inside (t % m.tx) m.w (k % m.w) r.1) (inside (t / m.tx) m.h (k / m.w) r.0));
      x = omega (arith, r.1, times_more (t % m.tx + 1) m.tx m.w (omega (arith, column)));
      y = omega (arith, r.0, times_more (t / m.tx + 1) m.ty m.h (omega (arith, row)));
    }
