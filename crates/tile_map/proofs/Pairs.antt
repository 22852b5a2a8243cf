-- The list of the edges: whose ends they are, that none is left out, that they rise, and that a tile has at most 8.
use Rattle.std.proofs.Common.{ℕ, ◌≡◌, ◌+◌, ◌-◌, ◌*◌, ◌/◌, ◌%◌, ◌<◌, ◌≤◌, Bool, true, false, ◌&&◌, List, get_or, length, map, refl, sym, ap, ◌∙◌, subst, arith, ◌⊎◌, inl, inr, ⊎_elim, lt-ltb}
use Rattle.std.specs.Prelude.{nat_le, nat_lt, filter, flat_map, AllPairs}
use Rattle.std.specs.List.{list_all, range_with_len}
use Rattle.std.proofs.lemmas.Bool.Decides.{nat_tests}
use Rattle.std.proofs.lemmas.List.FromFn.{length-range_with_len, get_or-range_with_len}
use Rattle.list_laws.proofs.Entries.{all_get}
use Rattle.tile_map.specs.Plane.{Site, MapValue, IsMap, tiles_of, is_on, is_meeting, is_held}
use Rattle.tile_map.specs.Laws.{IsLower}
use Rattle.tile_map.specs.Spans.{low, high}
use Rattle.tile_map.specs.Edges.{are_neighbours, pairs_from, pairs_of, pair_at, is_in_pair, has_end, edges_at}
use Rattle.tile_map.specs.Neighbours.{are_near, are_joined, near_from, near_pairs}
use Rattle.tile_map.proofs.Degree.{degree, are_few, all_few, all_bounded}
use Rattle.list_laws.proofs.Filters.{count_places, filter_twice, filter_short, filter_fewer}
use Rattle.list_laws.proofs.Ranges.{filter-map, filter-flat_map}
use Rattle.list_laws.proofs.Tests.{both, together}
use Rattle.tile_map.proofs.Spans.{le_test, test_le, times_more, held_span, held_parts}
use Rattle.list_laws.proofs.Members.{In, in_filter, filter_in, in_map, map_in, in_flat, flat_in, in_range, range_in, in_get, get_in, InOrder, order-filter, order-flat, order-map, order-range, order-pairs}

-- parts of equal size are the same or touch if their numbers are at most 1 apart
pub meeting_near : (size a b : ℕ) → 1 ≤ size → is_meeting size a b ≡ (nat_le a (b + 1) && nat_le b (a + 1))
meeting_near size a b some = λ i. one size a (b + 1) some i && one size b (a + 1) some i
  where
    order : (a b : ℕ) → (a ≤ b) ⊎ (b + 1 ≤ a)
    order a b = grind arith

    one : (size a b : ℕ) → 1 ≤ size → nat_le (a * size) (b * size) ≡ nat_le a b
    one size a b some = ⊎_elim (λ le. le_test _ _ (times_more a b size le) ∙ sym (le_test a b le)) (λ gt. above size a b (times_more (b + 1) a size gt) some gt) (order a b)
      where
        above : (size a b : ℕ) → (b + 1) * size ≤ a * size → 1 ≤ size → b + 1 ≤ a → nat_le (a * size) (b * size) ≡ nat_le a b
        above size a b h some gt = grind (arith, nat_tests)

pub neighbours_near : (m : MapValue) → IsMap m → (t u : ℕ) → are_neighbours m t u ≡ are_joined (is_on m) m.tx t u
neighbours_near m k t u = λ i. (is_on m t && is_on m u) && (nat_lt t u && (meeting_near m.w (t % m.tx) (u % m.tx) (omega (arith, k.sizes.w_low)) i && meeting_near m.h (t / m.tx) (u / m.tx) (omega (arith, k.sizes.h_low)) i))

pub pairs_near : (m : MapValue) → IsMap m → pairs_of m ≡ near_pairs (is_on m) m.tx (m.tx * m.ty)
pairs_near m k = λ i. flat_map (λ t. map (λ u. (t, u)) (filter (λ u. neighbours_near m k t u i) (range_with_len 0 (m.tx * m.ty)))) (range_with_len 0 (m.tx * m.ty))

-- with all tiles on
abbrev pub all_on : ℕ → Bool
all_on t = true

-- the pairs of tiles that are on, of all
pub near_filtered : (on : ℕ → Bool) (tx n : ℕ) → near_pairs on tx n ≡ filter (λ p. on p.0 && on p.1) (near_pairs all_on tx n)
near_filtered on tx n = sym (filter-flat_map (λ p. on p.0 && on p.1) (near_from all_on tx n) (range_with_len 0 n) ∙ (λ i. flat_map (λ t. each t i) (range_with_len 0 n)))
  where
    turned : (a b : Bool) → (b && a) ≡ (a && b)
    turned true true = refl
    turned true false = refl
    turned false true = refl
    turned false false = refl

    each : (t : ℕ) → filter (λ p. on p.0 && on p.1) (near_from all_on tx n t) ≡ near_from on tx n t
    each t =
        filter-map (λ (p : ℕ × ℕ). on p.0 && on p.1) (λ u. (t, u)) (filter (are_joined all_on tx t) (range_with_len 0 n))
        ∙ ap (map (λ u. (t, u))) (filter_twice (are_joined all_on tx t) (λ u. on t && on u) (range_with_len 0 n) ∙ (λ i. filter (λ u. turned (on t && on u) (are_near tx t u) i) (range_with_len 0 n)))

-- what is tested of each number of a range
all_range : (p : ℕ → Bool) (a n k : ℕ) → list_all p (range_with_len a n) ≡ true → k < n → p (a + k) ≡ true
all_range p a n k h lt = ap p (sym (get_or-range_with_len a n k 0 lt)) ∙ all_get p (range_with_len a n) k 0 h (omega (arith, lt, length-range_with_len a n))

degree_all : (m : MapValue) → IsMap m → (t : ℕ) → t < tiles_of m → degree t (near_pairs all_on m.tx (m.tx * m.ty)) ≤ 8
degree_all m k t lt =
    let x : 1 + (m.tx - 1) ≡ m.tx = omega (arith, k.sizes.tx_low) in
    let y : 1 + (m.ty - 1) ≡ m.ty = omega (arith, k.sizes.ty_low) in
    let column = all_range (λ tx. list_all (λ ty. are_few (near_pairs all_on tx (tx * ty)) (tx * ty)) (range_with_len 1 8)) 1 8 (m.tx - 1) all_few (omega (arith, k.sizes.tx_high)) in
    let column' = subst (λ tx. list_all (λ ty. are_few (near_pairs all_on tx (tx * ty)) (tx * ty)) (range_with_len 1 8) ≡ true) x column in
    let place = all_range (λ ty. are_few (near_pairs all_on m.tx (m.tx * ty)) (m.tx * ty)) 1 8 (m.ty - 1) column' (omega (arith, k.sizes.ty_high)) in
    let place' = subst (λ ty. are_few (near_pairs all_on m.tx (m.tx * ty)) (m.tx * ty) ≡ true) y place in
    let few = all_range (λ t. nat_le (degree t (near_pairs all_on m.tx (m.tx * m.ty))) 8) 0 (m.tx * m.ty) t place' lt in
    let same : 0 + t ≡ t = omega arith in
    let few' : nat_le (degree t (near_pairs all_on m.tx (m.tx * m.ty))) 8 ≡ true = subst (λ t. nat_le (degree t (near_pairs all_on m.tx (m.tx * m.ty))) 8 ≡ true) same few in
    test_le (degree t (near_pairs all_on m.tx (m.tx * m.ty))) 8 few'

-- the pairs of tiles that are on, of all pairs of neighbours
abbrev both_on : MapValue → ℕ × ℕ → Bool
both_on m p = is_on m p.0 && is_on m p.1

pairs_filtered : (m : MapValue) → IsMap m → pairs_of m ≡ filter (both_on m) (near_pairs all_on m.tx (m.tx * m.ty))
pairs_filtered m k = pairs_near m k ∙ near_filtered (is_on m) m.tx (m.tx * m.ty)

pub degree_low : (m : MapValue) → IsMap m → (t : ℕ) → t < tiles_of m → degree t (pairs_of m) ≤ 8
degree_low m k t lt =
    let all = near_pairs all_on m.tx (m.tx * m.ty) in
    let fewer : degree t (filter (both_on m) all) ≤ degree t all = filter_fewer (is_in_pair t) (both_on m) all in
    omega (arith, fewer, degree_all m k t lt, ap (degree t) (pairs_filtered m k))

all_pairs_bounded : (m : MapValue) → IsMap m → length (near_pairs all_on m.tx (m.tx * m.ty)) ≤ 210
all_pairs_bounded m k =
    let x : 1 + (m.tx - 1) ≡ m.tx = omega (arith, k.sizes.tx_low) in
    let y : 1 + (m.ty - 1) ≡ m.ty = omega (arith, k.sizes.ty_low) in
    let column = all_range (λ tx. list_all (λ ty. nat_le (length (near_pairs all_on tx (tx * ty))) 210) (range_with_len 1 8)) 1 8 (m.tx - 1) all_bounded (omega (arith, k.sizes.tx_high)) in
    let column' = subst (λ tx. list_all (λ ty. nat_le (length (near_pairs all_on tx (tx * ty))) 210) (range_with_len 1 8) ≡ true) x column in
    let place = all_range (λ ty. nat_le (length (near_pairs all_on m.tx (m.tx * ty))) 210) 1 8 (m.ty - 1) column' (omega (arith, k.sizes.ty_high)) in
    let place' = subst (λ ty. nat_le (length (near_pairs all_on m.tx (m.tx * ty))) 210 ≡ true) y place in
    test_le (length (near_pairs all_on m.tx (m.tx * m.ty))) 210 place'

-- there are at most 210 edges
pub pairs_bounded : (m : MapValue) → IsMap m → length (pairs_of m) ≤ 210
pairs_bounded m k =
    let all = near_pairs all_on m.tx (m.tx * m.ty) in
    let fewer : length (filter (both_on m) all) ≤ length all = filter_short (both_on m) all in
    omega (arith, fewer, all_pairs_bounded m k, ap length (pairs_filtered m k))

-- a tile has at most 8 edges
pub edges_at-few : (m : MapValue) → IsMap m → (t : ℕ) → t < tiles_of m → length (edges_at m t) ≤ 8
edges_at-few m k t lt =
    let same = count_places (is_in_pair t) (has_end m t) (pairs_of m) 0 (tiles_of m, tiles_of m + 1) (λ e h. ap (has_end m t) (from_zero e)) in
    omega (arith, same, degree_low m k t lt)
  where
    from_zero : (e : ℕ) → 0 + e ≡ e
    from_zero e = omega arith

-- an edge joins two neighbouring tiles
pub record Joined (m : MapValue) (p : ℕ × ℕ) : Type 0 where
  pub low : p.0 < tiles_of m
  pub high : p.1 < tiles_of m
  pub near : are_neighbours m p.0 p.1 ≡ true

pair_joined : (m : MapValue) (p : ℕ × ℕ) → In p (pairs_of m) → Joined m p
pair_joined m p i =
    let a = flat_in (pairs_from m) (range_with_len 0 (tiles_of m)) p i in
    let b = map_in (λ u. (a.0, u)) (filter (are_neighbours m a.0) (range_with_len 0 (tiles_of m))) p a.2 in
    let c = filter_in (are_neighbours m a.0) (range_with_len 0 (tiles_of m)) b.0 b.1 in
    let t = range_in 0 (tiles_of m) a.0 a.1 in
    let u = range_in 0 (tiles_of m) b.0 c.0 in
    subst (Joined m) (sym b.2) (record { low = omega (arith, t.1); high = omega (arith, u.1); near = c.1 })

pub edge_joined : (m : MapValue) (e : ℕ) → e < length (pairs_of m) → Joined m (pair_at m e)
edge_joined m e lt = pair_joined m (pair_at m e) (in_get (pairs_of m) e (tiles_of m, tiles_of m + 1) lt)

pub pair_low : (m : MapValue) (ps : List (ℕ × ℕ)) (e : ℕ) (d : ℕ × ℕ) → ps ≡ pairs_of m → e < length ps → ((get_or ps e d).0 < tiles_of m) × ((get_or ps e d).1 < tiles_of m)
pair_low m ps e d is lt = let j = pair_joined m (get_or ps e d) (subst (In (get_or ps e d)) is (in_get ps e d lt)) in (j.low, j.high)

-- both its tiles are on
pub joined_on : (m : MapValue) (p : ℕ × ℕ) → Joined m p → (is_on m p.0 ≡ true) × (is_on m p.1 ≡ true)
joined_on m p j = both _ _ (both _ _ j.near).0

-- the edge of two neighbours
pub edge_of : (m : MapValue) (t u : ℕ) → t < tiles_of m → u < tiles_of m → are_neighbours m t u ≡ true → (e : ℕ) × (e < length (pairs_of m)) × (pair_at m e ≡ (t, u))
edge_of m t u a b near =
    let first = in_range 0 (tiles_of m) t (omega arith) (omega (arith, a)) in
    let second = in_range 0 (tiles_of m) u (omega arith) (omega (arith, b)) in
    get_in (pairs_of m) (t, u) (tiles_of m, tiles_of m + 1) (in_flat (pairs_from m) (range_with_len 0 (tiles_of m)) t (t, u) first (in_map (λ u. (t, u)) (filter (are_neighbours m t) (range_with_len 0 (tiles_of m))) u (in_filter (are_neighbours m t) (range_with_len 0 (tiles_of m)) u second near)))

from_first : (m : MapValue) (t : ℕ) (p : ℕ × ℕ) → In p (pairs_from m t) → p.0 ≡ t
from_first m t p i = let r = map_in (λ u. (t, u)) (filter (are_neighbours m t) (range_with_len 0 (tiles_of m))) p i in ap (λ (q : ℕ × ℕ). q.0) r.2

pairs_order : (m : MapValue) → InOrder IsLower (pairs_of m)
pairs_order m =
    order-flat IsLower (pairs_from m) 0 (tiles_of m)
    (λ t. order-map IsLower (λ u v. u < v) (λ u. (t, u)) (filter (are_neighbours m t) (range_with_len 0 (tiles_of m))) (λ u v lt. inr (refl, lt)) (order-filter (λ u v. u < v) (are_neighbours m t) (range_with_len 0 (tiles_of m)) (order-range 0 (tiles_of m))))
    (λ t u p q lt i j. inl (omega (arith, lt, from_first m t p i, from_first m u q j)))

-- the edges are sorted
pub pairs_rise : (m : MapValue) → AllPairs IsLower (pairs_of m)
pairs_rise m = order-pairs IsLower (pairs_of m) (pairs_order m)

not_lower : (p q : ℕ × ℕ) → p ≡ q → IsLower p q → ⊥
not_lower p q e (inl h) = omega (arith, h, ap (λ (r : ℕ × ℕ). r.0) e)
not_lower p q e (inr h) = omega (arith, h.1, ap (λ (r : ℕ × ℕ). r.1) e)

-- two edges of one pair of tiles are one
pub one_edge : (m : MapValue) (e f : ℕ) → e < length (pairs_of m) → f < length (pairs_of m) → pair_at m e ≡ pair_at m f → e ≡ f
one_edge m e f a b same = go (order e f)
  where
    order : (e f : ℕ) → (e ≡ f) ⊎ (e < f) ⊎ (f < e)
    order e f = grind arith

    go : (e ≡ f) ⊎ (e < f) ⊎ (f < e) → e ≡ f
    go (inl h) = h
    go (inr (inl h)) = absurd (not_lower (pair_at m e) (pair_at m f) same (pairs_rise m e f (tiles_of m, tiles_of m + 1) h b))
    go (inr (inr h)) = absurd (not_lower (pair_at m f) (pair_at m e) (sym same) (pairs_rise m f e (tiles_of m, tiles_of m + 1) h a))

-- two parts that hold one place are at most 1 apart
part_near : (n size a b x : ℕ) → 8 ≤ size → low size a ≤ x → x < high n size a → low size b ≤ x → x < high n size b → is_meeting size a b ≡ true
part_near n size a b x big p q r s = together _ _ (le_test _ _ (side n size a b x big p s)) (le_test _ _ (side n size b a x big r q))
  where
    order : (a b : ℕ) → (a ≤ b + 1) ⊎ (b + 2 ≤ a)
    order a b = grind arith

    side : (n size a b x : ℕ) → 8 ≤ size → low size a ≤ x → x < high n size b → a * size ≤ (b + 1) * size
    side n size a b x big p s = ⊎_elim {C = a * size ≤ (b + 1) * size} (λ le. times_more a (b + 1) size le) (λ gt. absurd (omega (arith, big, p, s, times_more (b + 2) a size gt))) (order a b)

-- two tiles that hold one site are neighbours
pub holders_near : (m : MapValue) → IsMap m → (t u : ℕ) (s : Site) → t < u → is_held m t s ≡ true → is_held m u s ≡ true → are_neighbours m t u ≡ true
holders_near m k t u s lt a b =
    let p = held_span m t s.x s.y a in
    let q = held_span m u s.x s.y b in
    together _ _ (together _ _ (held_parts m t s a).on (held_parts m u s b).on)
    (together _ _ (lt-ltb t u lt)
    (together _ _ (part_near (m.tx * m.w) m.w (t % m.tx) (u % m.tx) s.x k.sizes.w_low p.1 p.2 q.1 q.2) (part_near (m.ty * m.h) m.h (t / m.tx) (u / m.tx) s.y k.sizes.h_low p.3 p.4 q.3 q.4)))
