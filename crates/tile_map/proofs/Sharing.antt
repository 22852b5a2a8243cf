-- What two neighbours share: of the columns and rows that both reach, the live sites.
use Rattle.std.proofs.Common.{ℕ, ◌≡◌, ◌+◌, ◌*◌, ◌/◌, ◌%◌, ◌<◌, ◌≤◌, min, max, Bool, true, false, ◌&&◌, refl, sym, ap, ◌∙◌, arith, ◌⊎◌, inl, inr}
use Rattle.std.specs.Prelude.{filter}
use Rattle.std.proofs.lemmas.Bool.{and_left, and_right}
use Rattle.std.proofs.lemmas.Nat.{rows}
use Rattle.list_laws.proofs.Tests.{both, together}
use Rattle.list_laws.proofs.Filters.{filter_twice}
use Rattle.tile_map.specs.Plane.{Site, MapValue, IsMap, site, tiles_of, sites_of, is_on, is_live, is_reached, is_held}
use Rattle.tile_map.specs.Spans.{left_both, right_both, top_both, bottom_both}
use Rattle.tile_map.specs.Edges.{are_neighbours, shared_by}
use Rattle.tile_map.specs.Tables.{live_in, area_both}
use Rattle.tile_map.proofs.Blocks.{IsBlock, filter_block}
use Rattle.tile_map.proofs.Spans.{test_le, spans_meet, reached_inside, not_left, not_right, not_above, not_under}
use Rattle.tile_map.proofs.Pairs.{Joined, joined_on, neighbours_near}

record Near (m : MapValue) (t u : ℕ) : Type 0 where
  pub left : t % m.tx ≤ u % m.tx + 1
  pub right : u % m.tx ≤ t % m.tx + 1
  pub up : t / m.tx ≤ u / m.tx + 1
  pub down : u / m.tx ≤ t / m.tx + 1

near_of : (m : MapValue) → IsMap m → (t u : ℕ) → are_neighbours m t u ≡ true → Near m t u
near_of m k t u h =
    let near = both _ _ (both _ _ (sym (neighbours_near m k t u) ∙ h)).1 in
    let parts = both _ _ near.1 in
    let x = both _ _ parts.0 in
    let y = both _ _ parts.1 in
    record { left = test_le _ _ x.0; right = test_le _ _ x.1; up = test_le _ _ y.0; down = test_le _ _ y.1 }

pub column_low : (m : MapValue) → IsMap m → (t : ℕ) → t < tiles_of m → t % m.tx < m.tx
column_low m k t lt = grind (arith, rows, k.sizes.tx_low)

pub row_low : (m : MapValue) → IsMap m → (t : ℕ) → t < tiles_of m → t / m.tx < m.ty
row_low m k t lt = grind (arith, rows, k.sizes.tx_low)

-- one of two numbers is the greater
max_cases : (a b x : ℕ) → x < max a b → (x < a) ⊎ (x < b)
max_cases a b x h = grind arith

min_cases : (a b x : ℕ) → min a b ≤ x → (a ≤ x) ⊎ (b ≤ x)
min_cases a b x h = grind arith

-- whether both of two tiles reach a site
abbrev pub both_reach : MapValue → ℕ × ℕ → Site → Bool
both_reach m p s = is_reached m p.0 s && is_reached m p.1 s

reached_is_block : (m : MapValue) → IsMap m → (p : ℕ × ℕ) → Joined m p → IsBlock (both_reach m p) (m.tx * m.w) (m.ty * m.h) (left_both m p) (right_both m p) (top_both m p) (bottom_both m p)
reached_is_block m k p j =
    let near = near_of m k p.0 p.1 j.near in
    let a = column_low m k p.0 j.low in
    let b = column_low m k p.1 j.high in
    let c = row_low m k p.0 j.low in
    let d = row_low m k p.1 j.high in
    record {
      across = spans_meet (m.tx * m.w) m.w (p.0 % m.tx) (p.1 % m.tx) m.tx k.sizes.w_low a b refl near.left near.right;
      across_end = omega arith;
      down = spans_meet (m.ty * m.h) m.h (p.0 / m.tx) (p.1 / m.tx) m.ty k.sizes.h_low c d refl near.up near.down;
      down_end = omega arith;
      within = λ u v e f g h. together _ _ (reached_inside m p.0 u v (omega arith) (omega arith) (omega arith) (omega arith)) (reached_inside m p.1 u v (omega arith) (omega arith) (omega arith) (omega arith));
      left = λ u v h. fails u v (λ t. not_left m t u v) (max_cases _ _ u h);
      right = λ u v h lt. fails u v (λ t le. not_right m t u v le lt) (min_cases _ _ u h);
      above = λ u v h. fails u v (λ t. not_above m t u v) (max_cases _ _ v h);
      under = λ u v h lt. fails u v (λ t le. not_under m t u v le lt) (min_cases _ _ v h);
    }
  where
    fails : {P : ℕ → Type 0} (u v : ℕ) → ((t : ℕ) → P t → is_reached m t (site u v) ≡ false) → (P p.0) ⊎ (P p.1) → both_reach m p (site u v) ≡ false
    fails u v h (inl a) = and_left _ _ (h p.0 a)
    fails u v h (inr b) = and_right _ _ (h p.1 b)

-- what two neighbours share: the live sites of the columns and rows that both reach
pub shared_live : (m : MapValue) → IsMap m → (p : ℕ × ℕ) → Joined m p → shared_by m p ≡ live_in m (area_both m p)
shared_live m k p j =
    let on = joined_on m p j in
    (λ i. filter (λ s. apart s on i) (sites_of m))
    ∙ sym (filter_twice (both_reach m p) (is_live m) (sites_of m))
    ∙ ap (filter (is_live m)) (filter_block m (both_reach m p) (left_both m p) (right_both m p) (top_both m p) (bottom_both m p) (reached_is_block m k p j))
  where
    turned : (l r q : Bool) → ((true && (l && r)) && (true && (l && q))) ≡ ((r && q) && l)
    turned true true true = refl
    turned true true false = refl
    turned true false true = refl
    turned true false false = refl
    turned false true true = refl
    turned false true false = refl
    turned false false true = refl
    turned false false false = refl

    apart : (s : Site) → (is_on m p.0 ≡ true) × (is_on m p.1 ≡ true) → (is_held m p.0 s && is_held m p.1 s) ≡ (both_reach m p s && is_live m s)
    apart s on = (λ i. (on.0 i && (is_live m s && is_reached m p.0 s)) && (on.1 i && (is_live m s && is_reached m p.1 s))) ∙ turned (is_live m s) (is_reached m p.0 s) (is_reached m p.1 s)

pub times_low : (a b : ℕ) → a ≤ 512 → b ≤ 512 → a * b ≤ 262144
times_low a b p q = grind arith
