-- The zones of a tile: events at the sites of one need the same edges.
use Rattle.std.proofs.Common.{ℕ, ◌≡◌, ◌+◌, ◌-◌, ◌*◌, ◌/◌, ◌%◌, ◌<◌, ◌≤◌, min, Bool, true, false, ◌&&◌, List, length, get_or, map, filter, refl, sym, ap, ◌∙◌, subst, arith, ◌⊎◌, inl, inr, ⊎_elim, true≢false, lt-ltb, ltb-true, [], ◌∷◌, ◌++◌}
use Rattle.std.specs.Prelude.{nat_le}
use Rattle.std.specs.List.{range_with_len}
use Rattle.std.proofs.lemmas.Bool.Decides.{nat_tests}
use Rattle.std.proofs.lemmas.List.FromFn.{get_or-map-range_with_len}
use Rattle.list_laws.proofs.Tests.{both, together}
use Rattle.tile_map.specs.Plane.{Site, MapValue, IsMap, site, tiles_of, is_on, is_live, is_owned}
use Rattle.tile_map.specs.declared.span.Area.{Area}
use Rattle.list_laws.proofs.Ranges.{range_cut}
use Rattle.std.proofs.lemmas.List.{map-append}
use Rattle.std.proofs.Common.{length-append}
use Rattle.tile_map.specs.Spans.{low, high, left_of, right_of, top_of, bottom_of, gap}
use Rattle.tile_map.specs.Tables.{own_of, reach_of}
use Rattle.tile_map.specs.Edges.{pairs_of, has_end, other_end, needs_of, reaches}
use Rattle.tile_map.specs.Zones.{zone_of, place_of, zone_site, zone_needs, AreZones}
use Rattle.tile_map.proofs.Spans.{times_more, held_parts, on_low, le_test, test_le}
use Rattle.tile_map.proofs.Near.{reaches-some}
use Rattle.tile_map.proofs.Interior.{near_reaches, own_live}
use Rattle.tile_map.proofs.PlaneLaws.{owner-one}
use Rattle.tile_map.proofs.Sharing.{column_low, row_low}

-- two places of an interval are one, or both have eight places on each side
abbrev pub AreAlike : ℕ → ℕ → ℕ → ℕ → Type 0
AreAlike first end x u = (x ≡ u) ⊎ ((first + 8 ≤ x) × (x + 8 < end) × (first + 8 ≤ u) × (u + 8 < end))

-- a place, and the place of its zone
pub zone_alike : (first end x : ℕ) → first ≤ x → x < end → first + 8 ≤ end → AreAlike first end x (place_of first end (zone_of first end x)) × (first ≤ place_of first end (zone_of first end x)) × (place_of first end (zone_of first end x) < end)
zone_alike first end x from to wide = ⊎_elim near far (split (x - first) 8)
  where
    split : (a b : ℕ) → (a < b) ⊎ (b ≤ a)
    split a b = grind arith

    place : (z : ℕ) → (z ≤ 8 → place_of first end z ≡ first + min z (end - 1 - first)) × (8 < z → place_of first end z ≡ end - 1 - (16 - z))
    place z = (λ h. grind (arith, nat_tests), λ h. grind (arith, nat_tests))

    near : x - first < 8 → AreAlike first end x (place_of first end (zone_of first end x)) × (first ≤ place_of first end (zone_of first end x)) × (place_of first end (zone_of first end x) < end)
    near h =
        let z : zone_of first end x ≡ x - first = grind (arith, nat_tests) in
        let p : place_of first end (zone_of first end x) ≡ x = ap (place_of first end) z ∙ (place (x - first)).0 (omega (arith, h)) ∙ omega (arith, from, to) in
        (inl (sym p), omega (arith, p, from), omega (arith, p, to))

    far : 8 ≤ x - first → AreAlike first end x (place_of first end (zone_of first end x)) × (first ≤ place_of first end (zone_of first end x)) × (place_of first end (zone_of first end x) < end)
    far h =
        let z : zone_of first end x ≡ 16 - min (end - 1 - x) 8 = grind (arith, nat_tests) in
        ⊎_elim
        (λ (late : end - 1 - x < 8).
        let p : place_of first end (zone_of first end x) ≡ x = ap (place_of first end) z ∙ (place (16 - min (end - 1 - x) 8)).1 (omega (arith, late)) ∙ omega (arith, late, to) in
        (inl (sym p), omega (arith, p, from), omega (arith, p, to)))
        (λ (early : 8 ≤ end - 1 - x).
        let p : place_of first end (zone_of first end x) ≡ first + 8 = ap (place_of first end) z ∙ (place (16 - min (end - 1 - x) 8)).0 (omega (arith, early)) ∙ omega (arith, early, h, to) in
        (inr (omega (arith, h), omega (arith, early), omega (arith, p), omega (arith, p, h, early)), omega (arith, p), omega (arith, p, h, early)))
        (split (end - 1 - x) 8)

-- two places are as far from an interval, or both are more than 4 from it
abbrev AreAsFar : ℕ → ℕ → ℕ → ℕ → Type 0
AreAsFar first end x u = (gap first end x ≡ gap first end u) ⊎ ((4 < gap first end x) × (4 < gap first end u))

-- places that are alike in part a are as far from what part b reaches
as_far : (n size a b x u : ℕ) → 8 ≤ size → a < n → b < n → AreAlike (a * size) ((a + 1) * size) x u → AreAsFar (low size b) (high (n * size) size b) x u
as_far n size a b x u big an bn (inl same) = inl (ap (gap (low size b) (high (n * size) size b)) same)
as_far n size a b x u big an bn (inr deep) = ⊎_elim before (⊎_elim within after) order
  where
    order : (b < a) ⊎ ((b ≡ a) ⊎ (a < b))
    order = grind arith

    whole : (a + 1) * size ≤ n * size
    whole = times_more (a + 1) n size (omega (arith, an))

    before : b < a → AreAsFar (low size b) (high (n * size) size b) x u
    before lt =
        let more = times_more (b + 1) a size (omega (arith, lt)) in
        inr (omega (arith, more, deep), omega (arith, more, deep))

    within : b ≡ a → AreAsFar (low size b) (high (n * size) size b) x u
    within same =
        let from : b * size ≡ a * size = ap (λ k. k * size) same in
        let x_in : gap (low size b) (high (n * size) size b) x ≡ 0 = omega (arith, from, whole, deep) in
        let u_in : gap (low size b) (high (n * size) size b) u ≡ 0 = omega (arith, from, whole, deep) in
        inl (x_in ∙ sym u_in)

    after : a < b → AreAsFar (low size b) (high (n * size) size b) x u
    after lt =
        let more = times_more (a + 1) b size (omega (arith, lt)) in
        inr (omega (arith, more, deep), omega (arith, more, deep))

-- so an event needs the same of what lies at most 4 away
as_near : (a b c d : ℕ) → (a ≡ b) ⊎ ((4 < a) × (4 < b)) → (c ≡ d) ⊎ ((4 < c) × (4 < d)) → nat_le (a + c) 4 ≡ nat_le (b + d) 4
as_near a b c d (inl p) (inl q) = λ i. nat_le (p i + q i) 4
as_near a b c d (inr p) q = grind (arith, nat_tests, p)
as_near a b c d (inl p) (inr q) = grind (arith, nat_tests, q)

-- two live sites of a tile that are alike in columns and in rows
pub record AreAlikeIn (m : MapValue) (t : ℕ) (c d : Site) : Type 0 where
  pub columns : AreAlike (t % m.tx * m.w) ((t % m.tx + 1) * m.w) c.x d.x
  pub rows : AreAlike (t / m.tx * m.h) ((t / m.tx + 1) * m.h) c.y d.y
  pub first : is_live m c ≡ true
  pub second : is_live m d ≡ true

same_reach : (m : MapValue) → IsMap m → (t u : ℕ) (c d : Site) → t < tiles_of m → AreAlikeIn m t c d → reaches m c u ≡ reaches m d u
same_reach m k t u c d lt alike = go (is_on m u) refl
  where
    off : (s : Site) → is_on m u ≡ false → reaches m s u ≡ false
    off s out = unreached (reaches m s u) refl
      where
        unreached : (b : Bool) → reaches m s u ≡ b → b ≡ false
        unreached false is = refl
        unreached true is = let r = reaches-some m s u is in absurd (true≢false (sym (held_parts m u r.0 r.2).on ∙ out))

    go : (b : Bool) → is_on m u ≡ b → reaches m c u ≡ reaches m d u
    go false out = off c out ∙ sym (off d out)
    go true on =
        let low = on_low m u on in
        let x = as_far m.tx m.w (t % m.tx) (u % m.tx) c.x d.x k.sizes.w_low (column_low m k t lt) (column_low m k u low) alike.columns in
        let y = as_far m.ty m.h (t / m.tx) (u / m.tx) c.y d.y k.sizes.h_low (row_low m k t lt) (row_low m k u low) alike.rows in
        sym (near_reaches m k u c (reach_of m u) on alike.first refl)
        ∙ as_near (gap (left_of m u) (right_of m u) c.x) (gap (left_of m u) (right_of m u) d.x) (gap (top_of m u) (bottom_of m u) c.y) (gap (top_of m u) (bottom_of m u) d.y) x y
        ∙ near_reaches m k u d (reach_of m u) on alike.second refl

pub same_needs : (m : MapValue) → IsMap m → (t : ℕ) (c d : Site) → t < tiles_of m → AreAlikeIn m t c d → needs_of m t c ≡ needs_of m t d
same_needs m k t c d lt alike = λ i. filter (λ e. has_end m t e && same_reach m k t (other_end m t e) c d lt alike i) (range_with_len 0 (length (pairs_of m)))

-- the number of a zone gives the tile and the zone again
pub zone_parts : (t v u : ℕ) → v < 17 → u < 17 → ((t * 289 + (v * 17 + u)) / 289 ≡ t) × ((t * 289 + (v * 17 + u)) % 289 ≡ v * 17 + u) × ((v * 17 + u) % 17 ≡ u) × ((v * 17 + u) / 17 ≡ v)
zone_parts t v u a b = (omega (arith, a, b), omega (arith, a, b), omega (arith, a, b), omega (arith, a, b))

-- what is kept of a zone
pub zone_read : (m n : MapValue) (ns : List (List ℕ)) (k : ℕ) (p : List ℕ) → n ≡ m → AreZones n ns → k < length ns → p ≡ get_or ns k p → p ≡ zone_needs m k
zone_read m n ns k p same is lt read =
    read ∙ ap (λ xs. get_or xs k p) is ∙ get_or-map-range_with_len (zone_needs n) 0 (length ns) k k p lt (omega arith) ∙ ap (λ q. zone_needs q k) same

-- a zone more
pub zones_more : (m : MapValue) (ns rs : List (List ℕ)) (n : List ℕ) → AreZones m ns → n ≡ zone_needs m (length ns) → rs ≡ ns ++ n ∷ [] → AreZones m rs
zones_more m ns rs n is next e =
    let k = length ns in
    let one : k ≡ 0 + k = omega arith in
    let longer : length rs ≡ k + 1 = ap length e ∙ length-append ns (n ∷ []) in
    e ∙ (λ i. is i ++ next i ∷ [])
    ∙ sym (ap (map (zone_needs m)) (range_cut 0 k (k + 1) k 1 refl one) ∙ map-append (zone_needs m) (range_with_len 0 k) (k ∷ []))
    ∙ ap (λ j. map (zone_needs m) (range_with_len 0 j)) (sym longer)

-- where a tile's rectangle ends
pub record OwnEnds (m : MapValue) (a : Area) : Type 0 where
  pub wide : a.columns.first + 8 ≤ a.columns.end
  pub tall : a.rows.first + 8 ≤ a.rows.end
  pub right : a.columns.end ≤ m.tx * m.w
  pub bottom : a.rows.end ≤ m.ty * m.h

pub own_ends : (m : MapValue) → IsMap m → (t : ℕ) (a : Area) → t < tiles_of m → a ≡ own_of m t → OwnEnds m a
own_ends m k t a lt is = subst (OwnEnds m) (sym is) (record {
  wide = omega (arith, k.sizes.w_low);
  tall = omega (arith, k.sizes.h_low);
  right = times_more (t % m.tx + 1) m.tx m.w (omega (arith, column_low m k t lt));
  bottom = times_more (t / m.tx + 1) m.ty m.h (omega (arith, row_low m k t lt));
})

-- a site of a tile's rectangle
pub record IsIn (a : Area) (s : Site) : Type 0 where
  pub left : a.columns.first ≤ s.x
  pub right : s.x < a.columns.end
  pub top : a.rows.first ≤ s.y
  pub bottom : s.y < a.rows.end

pub owned_low : (m : MapValue) (t : ℕ) (s : Site) → is_owned m t s ≡ true → t < tiles_of m
owned_low m t s h = ltb-true _ _ (both _ _ h).0

pub owned_in : (m : MapValue) (t : ℕ) (s : Site) (a : Area) → is_owned m t s ≡ true → a ≡ own_of m t → IsIn a s
owned_in m t s a h is =
    let p = both _ _ (both _ _ h).1 in
    let x = both _ _ p.0 in
    let y = both _ _ p.1 in
    subst (λ a. IsIn a s) (sym is) (record { left = test_le _ _ x.0; right = ltb-true _ _ x.1; top = test_le _ _ y.0; bottom = ltb-true _ _ y.1 })

-- what is kept of the zone of a live site of a tile's rectangle is what an event at the site needs
pub zone_known : (m : MapValue) → IsMap m → (t : ℕ) (s : Site) (a : Area) (v u : ℕ) → is_owned m t s ≡ true → is_live m s ≡ true → a ≡ own_of m t →
    v ≡ zone_of a.rows.first a.rows.end s.y → u ≡ zone_of a.columns.first a.columns.end s.x → v < 17 → u < 17 → zone_needs m (t * 289 + (v * 17 + u)) ≡ needs_of m t s
zone_known m k t s a v u owned live is row column few_v few_u =
    let low = owned_low m t s owned in
    let own = own_of m t in
    let inside = owned_in m t s own owned refl in
    let ends = own_ends m k t own low refl in
    let x = zone_alike own.columns.first own.columns.end s.x inside.left inside.right ends.wide in
    let y = zone_alike own.rows.first own.rows.end s.y inside.top inside.bottom ends.tall in
    let d = site (place_of own.columns.first own.columns.end (zone_of own.columns.first own.columns.end s.x)) (place_of own.rows.first own.rows.end (zone_of own.rows.first own.rows.end s.y)) in
    let on : is_on m t ≡ true = ap (is_on m) (owner-one m t s owned) ∙ (both _ _ live).1 in
    let within = together _ _ (together _ _ (le_test own.columns.first d.x x.1) (lt-ltb d.x own.columns.end x.2)) (together _ _ (le_test own.rows.first d.y y.1) (lt-ltb d.y own.rows.end y.2)) in
    let live_d : is_live m d ≡ true = own_live m t d.x d.y own on (omega (arith, x.2, ends.right)) (omega (arith, y.2, ends.bottom)) refl within in
    let alike : AreAlikeIn m t s d = record { columns = x.0; rows = y.0; first = live; second = live_d } in
    let parts = zone_parts t v u few_v few_u in
    let column_is : u ≡ zone_of own.columns.first own.columns.end s.x = column ∙ ap (λ (a : Area). zone_of a.columns.first a.columns.end s.x) is in
    let row_is : v ≡ zone_of own.rows.first own.rows.end s.y = row ∙ ap (λ (a : Area). zone_of a.rows.first a.rows.end s.y) is in
    (λ i. needs_of m (parts.0 i) (zone_site (own_of m (parts.0 i)) (parts.1 i)))
    ∙ (λ i. needs_of m t (site (place_of own.columns.first own.columns.end ((parts.2 ∙ column_is) i)) (place_of own.rows.first own.rows.end ((parts.3 ∙ row_is) i))))
    ∙ sym (same_needs m k t s d low alike)
