-- The areas of a tile: an event in the interior needs no edge, and what the others tell of an event.
use Rattle.std.proofs.Common.{ℕ, ◌≡◌, ◌≢◌, ◌+◌, ◌-◌, ◌*◌, ◌/◌, ◌%◌, ◌<◌, ◌≤◌, true, ◌&&◌, List, [], ◌∷◌, length, get_or, map, refl, sym, ap, ◌∙◌, subst, arith, ◌⊎◌, ⊎_elim, ltb-true, lt-ltb}
use Rattle.std.specs.Prelude.{Contains, nat_le}
use mathlib.Core.Logic.{dite}
use native.Mathlib.Decide.{ℕ_discrete}
use Rattle.std.specs.List.{range_with_len}
use Rattle.std.proofs.lemmas.Bool.Decides.{nat_tests}
use Rattle.std.proofs.lemmas.List.FromFn.{length-map-range_with_len, get_or-map-range_with_len}
use Rattle.list_laws.proofs.Tests.{both, together}
use Rattle.tile_map.specs.declared.span.Area.{Area}
use Rattle.tile_map.specs.declared.span.TileAreas.{TileAreas}
use Rattle.tile_map.specs.Plane.{Site, MapValue, IsMap, site, tiles_of, is_on, is_live, is_owned, is_held, apart, in_window}
use Rattle.tile_map.specs.Spans.{low, high, left_of, right_of, top_of, bottom_of, interior_low, interior_high, gap, is_within}
use Rattle.tile_map.specs.Tables.{own_of, interior_of, reach_of, areas_of}
use Rattle.tile_map.specs.Edges.{needs_of, reaches}
use Rattle.tile_map.proofs.Spans.{test_le, times_more, held_span, on_low, plane_test}
use Rattle.tile_map.proofs.Few.{one_place}
use Rattle.tile_map.proofs.Near.{window_apart, reaches-gap}
use Rattle.tile_map.proofs.Sharing.{column_low, row_low}
use Rattle.tile_map.proofs.PlaneLaws.{needs, owner-one}

-- what another part reaches is more than 4 away
part_far : (n size a b x u : ℕ) → a < n → b < n → a ≢ b → interior_low size a ≤ x → x < interior_high n size a → low size b ≤ u → u < high (n * size) size b → 4 < apart x u
part_far n size a b x u an bn ne p q r s = ⊎_elim before after order
  where
    order : (b < a) ⊎ (a < b)
    order = grind (arith, ne)

    before : b < a → 4 < apart x u
    before lt =
        let more = times_more (b + 1) a size (omega (arith, lt)) in
        let first : a * size + 8 ≤ x = grind (arith, nat_tests, p, lt) in
        omega (arith, more, first, s)

    after : a < b → 4 < apart x u
    after lt =
        let more = times_more (a + 1) b size (omega (arith, lt)) in
        let last : x < (a + 1) * size - 8 = grind (arith, nat_tests, q, lt, bn) in
        omega (arith, more, last, r)

-- where a site of the interior lies
record Inside (m : MapValue) (t : ℕ) (c : Site) : Type 0 where
  pub left : interior_low m.w (t % m.tx) ≤ c.x
  pub right : c.x < interior_high m.tx m.w (t % m.tx)
  pub top : interior_low m.h (t / m.tx) ≤ c.y
  pub bottom : c.y < interior_high m.ty m.h (t / m.tx)

inside_of : (m : MapValue) (t : ℕ) (c : Site) (a : Area) → a ≡ interior_of m t → is_within a.columns.first a.columns.end a.rows.first a.rows.end c.x c.y ≡ true → Inside m t c
inside_of m t c a is h = parts (subst (λ (a : Area). is_within a.columns.first a.columns.end a.rows.first a.rows.end c.x c.y ≡ true) is h)
  where
    parts : is_within (interior_low m.w (t % m.tx)) (interior_high m.tx m.w (t % m.tx)) (interior_low m.h (t / m.tx)) (interior_high m.ty m.h (t / m.tx)) c.x c.y ≡ true → Inside m t c
    parts h =
        let p = both _ _ h in
        let x = both _ _ p.0 in
        let y = both _ _ p.1 in
        record { left = test_le _ _ x.0; right = ltb-true _ _ x.1; top = test_le _ _ y.0; bottom = ltb-true _ _ y.1 }

-- no other tile holds a site of the window
far_held : (m : MapValue) → IsMap m → (t u : ℕ) (c s : Site) → t < tiles_of m → t ≢ u → Inside m t c → in_window m c s ≡ true → is_held m u s ≡ true → ⊥
far_held m k t u c s lt ne i near held =
    let span = held_span m u s.x s.y held in
    let close = window_apart m c s near in
    let column = column_low m k t lt in
    let row = row_low m k t lt in
    dite (ℕ_discrete (t % m.tx) (u % m.tx))
    (λ (x : t % m.tx ≡ u % m.tx).
    let other : t / m.tx ≢ u / m.tx = λ y. ne (one_place t u m.tx x y) in
    let far = part_far m.ty m.h (t / m.tx) (u / m.tx) c.y s.y row (row_low m k u span.0) other i.top i.bottom span.3 span.4 in
    omega (arith, far, close))
    (λ (x : t % m.tx ≢ u % m.tx).
    let far = part_far m.tx m.w (t % m.tx) (u % m.tx) c.x s.x column (column_low m k u span.0) x i.left i.right span.1 span.2 in
    omega (arith, far, close))

-- an event in the interior needs no edge
pub interior_needs : (m : MapValue) → IsMap m → (t : ℕ) (c : Site) (a : Area) → t < tiles_of m → a ≡ interior_of m t → is_within a.columns.first a.columns.end a.rows.first a.rows.end c.x c.y ≡ true → needs_of m t c ≡ []
interior_needs m k t c a lt is inside = go (needs_of m t c) refl
  where
    go : (es : List ℕ) → needs_of m t c ≡ es → needs_of m t c ≡ []
    go [] none = none
    go (e ∷ es) some =
        let cause = (needs m k).cause t c e (subst (λ xs. Contains xs e) (sym some) (0, omega arith, refl)) in
        absurd (far_held m k t cause.0 c cause.1 lt cause.4 (inside_of m t c a is inside) cause.5 cause.6)

-- what a map reads of a tile's areas
pub areas_long : (m n : MapValue) (areas : List TileAreas) (t : ℕ) → n ≡ m → areas ≡ map (areas_of n) (range_with_len 0 (tiles_of n)) → t < tiles_of m → t < length areas
areas_long m n areas t same is lt = omega (arith, ap tiles_of same, ap length is, length-map-range_with_len (areas_of n) 0 (tiles_of n), lt)

pub areas_read : (m n : MapValue) (areas : List TileAreas) (t : ℕ) (p : TileAreas) → n ≡ m → areas ≡ map (areas_of n) (range_with_len 0 (tiles_of n)) → t < tiles_of m → p ≡ get_or areas t p → p ≡ areas_of m t
areas_read m n areas t p same is lt read =
    read ∙ ap (λ xs. get_or xs t p) is ∙ get_or-map-range_with_len (areas_of n) 0 (tiles_of n) t t p (omega (arith, ap tiles_of same, lt)) (omega arith) ∙ ap (λ q. areas_of q t) same

-- a site of the rectangle of a tile that is on is live
pub own_live : (m : MapValue) (t x y : ℕ) (a : Area) → is_on m t ≡ true → x < m.tx * m.w → y < m.ty * m.h → a ≡ own_of m t → is_within a.columns.first a.columns.end a.rows.first a.rows.end x y ≡ true → is_live m (site x y) ≡ true
own_live m t x y a on within below is h =
    let inside = subst (λ (a : Area). is_within a.columns.first a.columns.end a.rows.first a.rows.end x y ≡ true) is h in
    let owned : is_owned m t (site x y) ≡ true = together _ _ (lt-ltb _ _ (on_low m t on)) inside in
    together _ _ (plane_test m x y within below) (sym (ap (is_on m) (owner-one m t (site x y) owned)) ∙ on)

-- what a tile reaches begins within the largest plane
pub reach_low : (m : MapValue) → IsMap m → (t : ℕ) (a : Area) → t < tiles_of m → a ≡ reach_of m t → (a.columns.first < 512) × (a.rows.first < 512)
reach_low m k t a lt is = (omega (arith, ap (λ (a : Area). a.columns.first) is, x), omega (arith, ap (λ (a : Area). a.rows.first) is, y))
  where
    part : (size n b : ℕ) → size ≤ 64 → n ≤ 8 → b < n → b * size - 4 < 512
    part size n b small few lt = let most = times_more b 7 size (omega (arith, few, lt)) in omega (arith, most, small)

    x : left_of m t < 512
    x = part m.w m.tx (t % m.tx) k.sizes.w_high k.sizes.tx_high (column_low m k t lt)

    y : top_of m t < 512
    y = part m.h m.ty (t / m.tx) k.sizes.h_high k.sizes.ty_high (row_low m k t lt)

-- what a tile reaches has columns and rows
reach_some : (n size a : ℕ) → 8 ≤ size → a < n → low size a < high (n * size) size a
reach_some n size a big lt = let more = times_more (a + 1) n size (omega (arith, lt)) in omega (arith, big, more)

-- a tile that is on reaches the window of a live site if what it reaches is at most 4 from the site
pub near_reaches : (m : MapValue) → IsMap m → (t : ℕ) (c : Site) (a : Area) → is_on m t ≡ true → is_live m c ≡ true → a ≡ reach_of m t → nat_le (gap a.columns.first a.columns.end c.x + gap a.rows.first a.rows.end c.y) 4 ≡ reaches m c t
near_reaches m k t c a on live is =
    ap (λ (a : Area). nat_le (gap a.columns.first a.columns.end c.x + gap a.rows.first a.rows.end c.y) 4) is
    ∙ (λ i. sym on i && nat_le (gap (left_of m t) (right_of m t) c.x + gap (top_of m t) (bottom_of m t) c.y) 4)
    ∙ sym (reaches-gap m k c t live
    (reach_some m.tx m.w (t % m.tx) k.sizes.w_low (column_low m k t (on_low m t on)))
    (reach_some m.ty m.h (t / m.tx) k.sizes.h_low (row_low m k t (on_low m t on))))
