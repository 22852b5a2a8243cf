-- The sites of a rectangle in row order.
use Rattle.std.proofs.Common.{ℕ, zero, suc, ◌≡◌, ◌+◌, ◌-◌, ◌*◌, ◌/◌, ◌%◌, ◌<◌, ◌≤◌, Bool, true, false, [], length, get_or, refl, ap, ◌∙◌, arith, map, ◌⊎◌, inl, inr}
use Rattle.std.specs.Prelude.{filter}
use Rattle.std.specs.List.{range_with_len}
use Rattle.std.proofs.Math.ListN.{get_or-append}
use Rattle.std.proofs.lemmas.List.FromFn.{length-map-range_with_len, get_or-map-range_with_len}
use Rattle.std.proofs.lemmas.List.{length-append, get_or-append_right}
use Rattle.std.proofs.lemmas.Nat.{rows}
use Rattle.list_laws.proofs.Members.{In, map_in, InOrder, order-flat, order-map, order-range}
use Rattle.tile_map.specs.Plane.{Site, MapValue, site, sites_of}
use Rattle.tile_map.specs.Tables.{row, block}
use Rattle.list_laws.proofs.Ranges.{filter_none, filter_between, filter-map, filter-flat_map, flat_map_between}

pub block_length : (x n y k : ℕ) → length (block x n y k) ≡ k * n
block_length x n y zero = omega arith
block_length x n y (suc k) =
    length-append (row x n y) (block x n (y + 1) k) ∙ (let a = length-map-range_with_len (λ x. site x y) x n in let b = block_length x n (y + 1) k in omega arith)

-- the site in column j and row i of a block
pub block_get : (x n y k i j : ℕ) (d : Site) → i < k → j < n → get_or (block x n y k) (i * n + j) d ≡ site (x + j) (y + i)
block_get x n y zero i j d a b = absurd (omega arith)
block_get x n y (suc k) zero j d a b =
    let first : 0 * n + j ≡ j = omega arith in
    let long : j < length (row x n y) = rw (length-map-range_with_len (λ x. site x y) x n) b in
    let zero_more : y ≡ y + 0 = omega arith in
    ap (λ e. get_or (block x n y (suc k)) e d) first
    ∙ get_or-append (row x n y) (block x n (y + 1) k) d j long
    ∙ get_or-map-range_with_len (λ x. site x y) x n j (x + j) d b refl
    ∙ ap (site (x + j)) zero_more
block_get x n y (suc k) (suc i) j d a b =
    let later : n ≤ suc i * n + j = omega arith in
    let place : suc i * n + j - n ≡ i * n + j = omega arith in
    let lower : y + 1 + i ≡ y + suc i = omega arith in
    get_or-append_right (row x n y) (block x n (y + 1) k) n (suc i * n + j) d (length-map-range_with_len (λ x. site x y) x n) later
    ∙ ap (λ e. get_or (block x n (y + 1) k) e d) place
    ∙ block_get x n (y + 1) k i j d (omega arith) b
    ∙ ap (site (x + j)) lower

-- a test that holds exactly on a rectangle of the plane leaves its block
pub record IsBlock (p : Site → Bool) (width height x x' y y' : ℕ) : Type 0 where
  pub across : x ≤ x'
  pub across_end : x' ≤ width
  pub down : y ≤ y'
  pub down_end : y' ≤ height
  pub within : (u v : ℕ) → x ≤ u → u < x' → y ≤ v → v < y' → p (site u v) ≡ true
  pub left : (u v : ℕ) → u < x → p (site u v) ≡ false
  pub right : (u v : ℕ) → x' ≤ u → u < width → p (site u v) ≡ false
  pub above : (u v : ℕ) → v < y → p (site u v) ≡ false
  pub under : (u v : ℕ) → y' ≤ v → v < height → p (site u v) ≡ false

pub filter_block : (m : MapValue) (p : Site → Bool) (x x' y y' : ℕ) → IsBlock p (m.tx * m.w) (m.ty * m.h) x x' y y' → filter p (sites_of m) ≡ block x (x' - x) y (y' - y)
filter_block m p x x' y y' h =
    filter-flat_map p (row 0 (m.tx * m.w)) (range_with_len 0 (m.ty * m.h))
    ∙ flat_map_between (λ v. filter p (row 0 (m.tx * m.w) v)) (row x (x' - x)) (m.ty * m.h) y y' h.down h.down_end (λ v lt. none v (λ u k. h.above u v lt)) (λ v low high. inside v low high) (λ v low high. none v (λ u k. h.under u v low high))
  where
    none : (v : ℕ) → ((u : ℕ) → u < m.tx * m.w → p (site u v) ≡ false) → filter p (row 0 (m.tx * m.w) v) ≡ []
    none v all = filter-map p (λ u. site u v) (range_with_len 0 (m.tx * m.w)) ∙ ap (map (λ u. site u v)) (filter_none (λ u. p (site u v)) 0 (m.tx * m.w) (λ u low high. all u (omega (arith, high))))

    inside : (v : ℕ) → y ≤ v → v < y' → filter p (row 0 (m.tx * m.w) v) ≡ row x (x' - x) v
    inside v low high = filter-map p (λ u. site u v) (range_with_len 0 (m.tx * m.w)) ∙ ap (map (λ u. site u v)) (filter_between (λ u. p (site u v)) (m.tx * m.w) x x' h.across h.across_end (λ u lt. h.left u v lt) (λ u a b. h.within u v a b low high) (λ u a b. h.right u v a b))

pub row_column : (e n k : ℕ) → e < k * n → (e ≡ e / n * n + e % n) × (e / n < k) × (e % n < n)
row_column e n k h = grind (arith, rows)

-- the site at a place of a block
pub block_at : (x n y k e : ℕ) (d : Site) → e < k * n → get_or (block x n y k) e d ≡ site (x + e % n) (y + e / n)
block_at x n y k e d h =
    let r = row_column e n k h in
    ap (λ i. get_or (block x n y k) i d) r.0 ∙ block_get x n y k (e / n) (e % n) d r.1 r.2

-- the order of rows
abbrev pub IsBefore : Site → Site → Type 0
IsBefore s q = (s.y < q.y) ⊎ ((s.y ≡ q.y) × (s.x < q.x))

pub block_order : (x n y k : ℕ) → InOrder IsBefore (block x n y k)
block_order x n y k =
    order-flat IsBefore (row x n) y k
    (λ v. order-map IsBefore (λ a b. a < b) (λ u. site u v) (range_with_len x n) (λ a b lt. inr (refl, lt)) (order-range x n))
    (λ v w s q lt i j. inl (omega (arith, lt, of_row v s i, of_row w q j)))
  where
    of_row : (v : ℕ) (s : Site) → In s (row x n v) → s.y ≡ v
    of_row v s i = let r = map_in (λ u. site u v) (range_with_len x n) s i in ap (λ (q : Site). q.y) r.2
