-- The numbers of the live sites of an area, by its places.
use Rattle.std.proofs.Common.{ℕ, zero, suc, ◌≡◌, ◌+◌, ◌-◌, ◌*◌, ◌/◌, ◌%◌, ◌<◌, ◌≤◌, Bool, true, false, ◌&&◌, List, [], ◌∷◌, ◌++◌, length, get_or, take, map, cond, refl, sym, ap, ◌∙◌, arith, ⊎_elim, Option, Some, None}
use Rattle.std.specs.Prelude.{filter, if◌then◌else◌}
use Rattle.std.specs.Option.{option_map, option_and_then}
use Rattle.std.proofs.lemmas.Bool.Decides.{nat_tests}
use Rattle.std.proofs.lemmas.Nat.{rows}
use Rattle.std.proofs.lemmas.List.{take_more, take_all, map-append, length-append, length-take}
use Rattle.std.proofs.lemmas.List.Elements.{filter-append}
use Rattle.std.proofs.lemmas.Option.{same_Some, none-some}
use Rattle.list_laws.proofs.Filters.{filter_short, filter_place}
use Rattle.list_laws.proofs.Members.{order-filter}
use Rattle.list_laws.proofs.Tests.{both}
use Rattle.tile_map.specs.declared.span.Area.{Area}
use Rattle.tile_map.specs.Plane.{Site, MapValue, IsMap, site, tiles_of, sites_of, is_live, is_held}
use Rattle.tile_map.specs.Spans.{left_both, right_both, top_both, bottom_both, is_within, place_within}
use Rattle.tile_map.specs.Edges.{pairs_of, pair_at, shared_of, register_of}
use Rattle.tile_map.specs.Tables.{sites_in, live_in, site_number, SharedValue, number_at, area_both, shared_both}
use Rattle.tile_map.proofs.Spans.{held_span}
use Rattle.tile_map.proofs.Blocks.{block_length, block_get, block_at, block_order, IsBefore}
use Rattle.tile_map.proofs.Pairs.{edge_joined}
use Rattle.tile_map.proofs.Sharing.{shared_live, times_low}
use Rattle.tile_map.proofs.Registers.{bool_cases, number_at_place, number_none, number_place}

-- how many places an area has
pub area_places : (a : Area) → length (sites_in a) ≡ (a.columns.end - a.columns.first) * (a.rows.end - a.rows.first)
area_places a = block_length a.columns.first (a.columns.end - a.columns.first) a.rows.first (a.rows.end - a.rows.first) ∙ omega arith

-- the site at a place
pub area_site : (a : Area) (k : ℕ) (d : Site) → k < length (sites_in a) → get_or (sites_in a) k d ≡ site (a.columns.first + k % (a.columns.end - a.columns.first)) (a.rows.first + k / (a.columns.end - a.columns.first))
area_site a k d lt =
    block_at a.columns.first (a.columns.end - a.columns.first) a.rows.first (a.rows.end - a.rows.first) k d
    (omega (arith, lt, block_length a.columns.first (a.columns.end - a.columns.first) a.rows.first (a.rows.end - a.rows.first)))

-- one place more
pub record Counted (m : MapValue) (a : Area) (found : List (Option ℕ)) (live k : ℕ) : Type 0 where
  pub numbers : found ≡ map (site_number (live_in m a)) (take k (sites_in a))
  pub count : live ≡ length (filter (is_live m) (take k (sites_in a)))

-- the number of the site at a place
number_here : (m : MapValue) (a : Area) (k : ℕ) (s : Site) (b : Bool) → k < length (sites_in a) → get_or (sites_in a) k s ≡ s → is_live m s ≡ b →
    site_number (live_in m a) s ≡ (if b then Some (length (filter (is_live m) (take k (sites_in a)))) else None)
number_here m a k s true lt at live =
    let p = filter_place (is_live m) (sites_in a) k s lt (ap (is_live m) at ∙ live) in
    number_at_place (live_in m a) (length (filter (is_live m) (take k (sites_in a)))) s
    (order-filter IsBefore (is_live m) (sites_in a) (block_order a.columns.first (a.columns.end - a.columns.first) a.rows.first (a.rows.end - a.rows.first)))
    p.0 (p.1 ∙ at)
number_here m a k s false lt at live = number_none (is_live m) (sites_in a) s live

count_here : (m : MapValue) (s : Site) (b : Bool) → is_live m s ≡ b → length (filter (is_live m) (s ∷ [])) ≡ cond b 1 0
count_here m s b live = ap (λ c. length (cond c (s ∷ []) [])) live ∙ one b
  where
    one : (b : Bool) → length (cond b (s ∷ []) []) ≡ cond b 1 0
    one true = refl
    one false = refl

pub counted_more : (m : MapValue) (a : Area) (k : ℕ) (s : Site) (b : Bool) (old new : List (Option ℕ)) (n n' : ℕ) → k < length (sites_in a) → get_or (sites_in a) k s ≡ s → is_live m s ≡ b →
    Counted m a old n k → new ≡ old ++ (if b then Some n else None) ∷ [] → n' ≡ n + cond b 1 0 → Counted m a new n' (k + 1)
counted_more m a k s b old new n n' lt at live c grows rises =
    let ss = sites_in a in
    let f = site_number (live_in m a) in
    let more : take (k + 1) ss ≡ take k ss ++ s ∷ [] = take_more ss k s lt ∙ ap (λ q. take k ss ++ q ∷ []) at in
    record {
      numbers =
          grows
          ∙ (λ i. c.numbers i ++ (if b then Some (c.count i) else None) ∷ [])
          ∙ ap (λ o. map f (take k ss) ++ o ∷ []) (sym (number_here m a k s b lt at live))
          ∙ sym (ap (map f) more ∙ map-append f (take k ss) (s ∷ []));
      count =
          let whole : length (filter (is_live m) (take (k + 1) ss)) ≡ length (filter (is_live m) (take k ss)) + length (filter (is_live m) (s ∷ [])) = ap (λ l. length (filter (is_live m) l)) more ∙ ap length (filter-append (is_live m) (take k ss) (s ∷ [])) ∙ length-append (filter (is_live m) (take k ss)) (filter (is_live m) (s ∷ [])) in
          rises ∙ (λ i. c.count i + sym (count_here m s b live) i) ∙ sym whole;
    }

-- there are no more live sites than places
pub counted_low : (m : MapValue) (a : Area) (numbers : List (Option ℕ)) (count k : ℕ) → Counted m a numbers count k → k ≤ length (sites_in a) → count ≤ k
counted_low m a numbers count k c le = omega (arith, c.count, filter_short (is_live m) (take k (sites_in a)), length-take k (sites_in a))

-- after all places
pub counted_all : (m : MapValue) (a : Area) (numbers : List (Option ℕ)) (count k : ℕ) → Counted m a numbers count k → length (sites_in a) ≡ k → (numbers ≡ map (site_number (live_in m a)) (sites_in a)) × (count ≡ length (live_in m a))
counted_all m a numbers count k c whole =
    let all : take k (sites_in a) ≡ sites_in a = take_all k (sites_in a) (omega (arith, whole)) in
    (c.numbers ∙ ap (map (site_number (live_in m a))) all, c.count ∙ ap (λ l. length (filter (is_live m) l)) all)

-- what it means to be in a rectangle
pub within_facts : (l r t b x y : ℕ) → is_within l r t b x y ≡ true → (l ≤ x) × (x < r) × (t ≤ y) × (y < b)
within_facts l r t b x y h = grind (arith, nat_tests)

pub within_test : (l r t b x y : ℕ) → l ≤ x → x < r → t ≤ y → y < b → is_within l r t b x y ≡ true
within_test l r t b x y p q u v = grind (arith, nat_tests)

times_row : (i k n j : ℕ) → i < k → j < n → i * n + j < k * n
times_row i k n j a b = grind (arith, rows)

-- the place of a site of an area
pub area_place : (a : Area) (x y k : ℕ) (d : Site) → place_within a.columns.first a.columns.end a.rows.first a.rows.end x y ≡ Some k → (k < length (sites_in a)) × (get_or (sites_in a) k d ≡ site x y)
area_place a x y k d h = go (is_within a.columns.first a.columns.end a.rows.first a.rows.end x y) refl h
  where
    go : (b : Bool) → is_within a.columns.first a.columns.end a.rows.first a.rows.end x y ≡ b → (if b then Some ((y - a.rows.first) * (a.columns.end - a.columns.first) + (x - a.columns.first)) else None) ≡ Some k → (k < length (sites_in a)) × (get_or (sites_in a) k d ≡ site x y)
    go true is e =
        let f = within_facts a.columns.first a.columns.end a.rows.first a.rows.end x y is in
        let n = a.columns.end - a.columns.first in
        let r = a.rows.end - a.rows.first in
        let i = y - a.rows.first in
        let j = x - a.columns.first in
        let at : i * n + j ≡ k = same_Some (i * n + j) k e in
        let column : j < n = omega (arith, f.0, f.1) in
        let row : i < r = omega (arith, f.2, f.3) in
        let low : i * n + j < r * n = times_row i r n j row column in
        let across : a.columns.first + j ≡ x = omega (arith, f.0) in
        let down : a.rows.first + i ≡ y = omega (arith, f.2) in (
          omega (arith, at, low, block_length a.columns.first n a.rows.first r),
          ap (λ q. get_or (sites_in a) q d) (sym at) ∙ block_get a.columns.first n a.rows.first r i j d row column ∙ (λ t. site (across t) (down t)),
        )
    go false is e = absurd (none-some k e)

-- a site that has no place there is not held by both
area_none : (m : MapValue) (p : ℕ × ℕ) (x y : ℕ) → place_within (left_both m p) (right_both m p) (top_both m p) (bottom_both m p) x y ≡ None → (is_held m p.0 (site x y) && is_held m p.1 (site x y)) ≡ false
area_none m p x y h = ⊎_elim (λ held. absurd (inside held)) (λ held. held) (bool_cases (is_held m p.0 (site x y) && is_held m p.1 (site x y)))
  where
    inside : (is_held m p.0 (site x y) && is_held m p.1 (site x y)) ≡ true → ⊥
    inside held =
        let parts = both (is_held m p.0 (site x y)) (is_held m p.1 (site x y)) held in
        let s = held_span m p.0 x y parts.0 in
        let t = held_span m p.1 x y parts.1 in
        let test = within_test (left_both m p) (right_both m p) (top_both m p) (bottom_both m p) x y (omega (arith, s.1, t.1)) (omega (arith, s.2, t.2)) (omega (arith, s.3, t.3)) (omega (arith, s.4, t.4)) in
        none-some _ (sym h ∙ ap (λ b. if b then Some ((y - top_both m p) * (right_both m p - left_both m p) + (x - left_both m p)) else None) test)

pub get_or-map : {A B : Type 0} (f : A → B) (xs : List A) (k : ℕ) (a : A) (b : B) → k < length xs → get_or (map f xs) k b ≡ f (get_or xs k a)
get_or-map f [] k a b lt = absurd (omega arith)
get_or-map f (x ∷ xs) zero a b lt = refl
get_or-map f (x ∷ xs) (suc k) a b lt = get_or-map f xs k a b (omega arith)

-- the number that the places give is the one among the shared sites
pub number_read : (m : MapValue) → IsMap m → (e x y : ℕ) (v : SharedValue) → e < length (pairs_of m) → v ≡ shared_both m (pair_at m e) → number_at v x y ≡ site_number (shared_of m e) (site x y)
number_read m valid e x y v lt is = ap (λ w. number_at w x y) is ∙ go (place_within (left_both m (pair_at m e)) (right_both m (pair_at m e)) (top_both m (pair_at m e)) (bottom_both m (pair_at m e)) x y) refl
  where
    go : (o : Option ℕ) → place_within (left_both m (pair_at m e)) (right_both m (pair_at m e)) (top_both m (pair_at m e)) (bottom_both m (pair_at m e)) x y ≡ o →
        option_and_then (λ k. get_or (map (site_number (live_in m (area_both m (pair_at m e)))) (sites_in (area_both m (pair_at m e)))) k None) o ≡ site_number (shared_of m e) (site x y)
    go None h = sym (number_none (λ s. is_held m (pair_at m e).0 s && is_held m (pair_at m e).1 s) (sites_of m) (site x y) (area_none m (pair_at m e) x y h))
    go (Some k) h =
        let a = area_both m (pair_at m e) in
        let p = area_place a x y k (site x y) h in
        get_or-map (site_number (live_in m a)) (sites_in a) k (site x y) None p.0
        ∙ ap (site_number (live_in m a)) p.1
        ∙ ap (λ ss. site_number ss (site x y)) (sym (shared_live m valid (pair_at m e) (edge_joined m e lt)))

-- what a map reads of an edge's sites
pub table_read : (m n : MapValue) (items : List SharedValue) (e : ℕ) (v : SharedValue) → n ≡ m → items ≡ map (shared_both n) (pairs_of n) → e < length (pairs_of m) → v ≡ get_or items e v → v ≡ shared_both m (pair_at m e)
table_read m n items e v same is lt read =
    read
    ∙ ap (λ xs. get_or xs e v) (is ∙ ap (λ q. map (shared_both q) (pairs_of q)) same)
    ∙ get_or-map (shared_both m) (pairs_of m) e (tiles_of m, tiles_of m + 1) v lt

pub register_read : (m : MapValue) → IsMap m → (e x y : ℕ) (v : SharedValue) (number : Option ℕ) → e < length (pairs_of m) → v ≡ shared_both m (pair_at m e) → number ≡ number_at v x y → option_map (λ k. 1 + 2 * k) number ≡ register_of m e (site x y)
register_read m valid e x y v number lt is read = ap (option_map (λ k. 1 + 2 * k)) (read ∙ number_read m valid e x y v lt is)

-- how many sites an edge shares
pub count_read : (m : MapValue) → IsMap m → (e : ℕ) (v : SharedValue) → e < length (pairs_of m) → v ≡ shared_both m (pair_at m e) → v.count ≡ length (shared_of m e)
count_read m valid e v lt is = ap (λ (w : SharedValue). w.count) is ∙ ap length (sym (shared_live m valid (pair_at m e) (edge_joined m e lt)))

pub size_low : (n size : ℕ) → n ≤ 8 → size ≤ 64 → n * size ≤ 512
size_low n size a b = grind arith

pub shared_bounded : (m : MapValue) → IsMap m → (e : ℕ) → e < length (pairs_of m) → length (shared_of m e) ≤ 262144
shared_bounded m k e lt =
    let a = area_both m (pair_at m e) in
    let wide = size_low m.tx m.w k.sizes.tx_high k.sizes.w_high in
    let tall = size_low m.ty m.h k.sizes.ty_high k.sizes.h_high in
    let columns : a.columns.end - a.columns.first ≤ 512 = omega (arith, wide) in
    let rows : a.rows.end - a.rows.first ≤ 512 = omega (arith, tall) in
    omega (arith, ap length (shared_live m k (pair_at m e) (edge_joined m e lt)), filter_short (is_live m) (sites_in a), area_places a, times_low (a.columns.end - a.columns.first) (a.rows.end - a.rows.first) columns rows)

-- a number among the shared sites is small
pub number_low : (m : MapValue) → IsMap m → (e x y n : ℕ) (v : SharedValue) → e < length (pairs_of m) → v ≡ shared_both m (pair_at m e) → number_at v x y ≡ Some n → n < 262144
number_low m k e x y n v lt is found =
    omega (arith, (number_place (shared_of m e) (site x y) n (sym (number_read m k e x y v lt is) ∙ found)).0, shared_bounded m k e lt)

-- a map has few tiles
pub tiles_few : (m : MapValue) → IsMap m → tiles_of m ≤ 64
tiles_few m k = go m.tx m.ty k.sizes.tx_high k.sizes.ty_high
  where
    go : (a b : ℕ) → a ≤ 8 → b ≤ 8 → a * b ≤ 64
    go a b p q = grind arith

-- a plane has a column, and few sites
pub plane_low : (m : MapValue) → IsMap m → (1 ≤ m.tx * m.w) × (m.tx * m.w * (m.ty * m.h) ≤ 262144)
plane_low m k =
    let wide = side m.tx m.w k.sizes.tx_low k.sizes.tx_high k.sizes.w_low k.sizes.w_high in
    let high = side m.ty m.h k.sizes.ty_low k.sizes.ty_high k.sizes.h_low k.sizes.h_high in
    (wide.0, square (m.tx * m.w) (m.ty * m.h) wide.1 high.1)
  where
    side : (n size : ℕ) → 1 ≤ n → n ≤ 8 → 8 ≤ size → size ≤ 64 → (1 ≤ n * size) × (n * size ≤ 512)
    side n size a b c d = (grind arith, grind arith)

    square : (a b : ℕ) → a ≤ 512 → b ≤ 512 → a * b ≤ 262144
    square a b p q = grind arith
