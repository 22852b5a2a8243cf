-- Two neighbours share few sites: a strip of eight columns, or rows, or both.
use Rattle.std.proofs.Common.{ℕ, ◌≡◌, ◌≢◌, ◌+◌, ◌-◌, ◌*◌, ◌/◌, ◌%◌, ◌<◌, ◌≤◌, min, max, length, ap, arith, ◌⊎◌, ⊎_elim}
use Rattle.std.proofs.lemmas.Nat.{rows}
use Rattle.list_laws.proofs.Filters.{filter_short}
use Rattle.tile_map.specs.Plane.{MapValue, IsMap, is_live}
use Rattle.tile_map.specs.Spans.{low, high}
use Rattle.tile_map.specs.Edges.{pairs_of, pair_at, shared_of}
use Rattle.tile_map.specs.Tables.{sites_in, area_both}
use Rattle.tile_map.proofs.Spans.{times_more}
use Rattle.tile_map.proofs.Numbers.{area_places}
use Rattle.tile_map.proofs.Pairs.{edge_joined}
use Rattle.tile_map.proofs.PlaneLaws.{ends_rise}
use Rattle.tile_map.proofs.Sharing.{shared_live}

-- how many places two parts of a line hold together
abbrev both : ℕ → ℕ → ℕ → ℕ → ℕ
both n size a b = min (high n size a) (high n size b) - max (low size a) (low size b)

both_few : (n size a b : ℕ) → size ≤ 64 → both n size a b ≤ 72
both_few n size a b small = omega (arith, small)

-- two that are not one hold a strip together
after_few : (n size a b : ℕ) → a < b → both n size a b ≤ 8
after_few n size a b lt = omega (arith, times_more (a + 1) b size (omega (arith, lt)))

before_few : (n size a b : ℕ) → b < a → both n size a b ≤ 8
before_few n size a b lt = omega (arith, times_more (b + 1) a size (omega (arith, lt)))

apart_few : (n size a b : ℕ) → a ≢ b → both n size a b ≤ 8
apart_few n size a b ne = ⊎_elim (λ lt. after_few n size a b lt) (λ lt. before_few n size a b lt) (order a b ne)
  where
    order : (a b : ℕ) → a ≢ b → (a < b) ⊎ (b < a)
    order a b ne = grind (arith, ne)

-- two numbers with one row and one column are one
pub one_place : (t u n : ℕ) → t % n ≡ u % n → t / n ≡ u / n → t ≡ u
one_place t u n x y = grind (arith, rows, x, y)

differs : (t u n : ℕ) → t < u → (t % n ≢ u % n) ⊎ (t / n ≢ u / n)
differs t u n lt = grind (arith, one_place t u n)

times_few : (a b : ℕ) → a ≤ 8 → b ≤ 72 → (a * b ≤ 576) × (b * a ≤ 576)
times_few a b p q = (grind arith, grind arith)

pub shared_few : (m : MapValue) → IsMap m → (e : ℕ) → e < length (pairs_of m) → length (shared_of m e) ≤ 576
shared_few m k e lt =
    let p = pair_at m e in
    let a = area_both m p in
    let columns = both_few (m.tx * m.w) m.w (p.0 % m.tx) (p.1 % m.tx) k.sizes.w_high in
    let rows = both_few (m.ty * m.h) m.h (p.0 / m.tx) (p.1 / m.tx) k.sizes.h_high in
    let places : (a.columns.end - a.columns.first) * (a.rows.end - a.rows.first) ≤ 576 = ⊎_elim
    (λ ne. (times_few _ _ (apart_few (m.tx * m.w) m.w (p.0 % m.tx) (p.1 % m.tx) ne) rows).0)
    (λ ne. (times_few _ _ (apart_few (m.ty * m.h) m.h (p.0 / m.tx) (p.1 / m.tx) ne) columns).1)
    (differs p.0 p.1 m.tx (ends_rise m e lt).0) in
    omega (arith, ap length (shared_live m k p (edge_joined m e lt)), filter_short (is_live m) (sites_in a), area_places a, places)
