-- The shared sites of an edge that a window has, row by row and site by site.
use Rattle.std.proofs.Common.{◌≡◌, ℕ, ◌+◌, ◌-◌, ◌<◌, ◌≤◌, true, refl, sym, ap, ◌∙◌, arith, ◌⊎◌, inl, inr, ⊎_elim, Option, Some, None, length}
use Rattle.std.specs.Prelude.{slice_get}
use Rattle.std.proofs.lemmas.Option.{slice_get_within}
use Rattle.list_laws.proofs.Numbers.{less_or_same}
use Rattle.tile_map.specs.Plane.{Site, MapValue, site, is_held}
use Rattle.tile_map.specs.Edges.{shared_of, window_site}
use Rattle.tile_map.specs.Laws.{IsPlane}
use Rattle.tile_map.specs.declared.span.Area.{Area}
use Rattle.tile_map.specs.Tables.{sites_in}
use Rattle.tile_map.proofs.Registers.{number_place}
use Rattle.border_cache.specs.declared.row_runs.Run.{Run}
use Rattle.border_cache.specs.News.{Covers}
use Rattle.border_cache.specs.Windows.{place_in, edge_place_some, AreRowsOf, IsNear, IsRunOf, IsRowRun}
use Rattle.border_cache.specs.Copies.{CacheValue, HoldsWindow, cell_for, held_cell, window_cells}
use Rattle.border_cache.specs.Shared.{IsSharedRun, IsInRow, IsInRun, shared_cell}
use Rattle.border_cache.proofs.Covered.{whole_place}
use Rattle.border_cache.proofs.RowPlaces.{near_site, run_near, place_near, near_place}

-- the site of a place of the window
pub placed_site : (m : MapValue) (c : Site) (e n k : ℕ) → place_in m c e n ≡ Some k → (s : Site) × (window_site m c n ≡ Some s) × (slice_get (shared_of m e) k ≡ Some s)
placed_site m c e n k h = go (window_site m c n) refl h
  where
    go : (o : Option Site) → window_site m c n ≡ o → edge_place_some m e o ≡ Some k → (s : Site) × (window_site m c n ≡ Some s) × (slice_get (shared_of m e) k ≡ Some s)
    go None is h = absurd (cc h)
    go (Some s) is h = (s, is, (number_place (shared_of m e) s k h).1)

-- its cell is the window's
pub own_cell : (v : CacheValue) (c : Site) (e n k : ℕ) → place_in v.map c e n ≡ Some k → shared_cell v e k ≡ window_cells v c n
own_cell v c e n k h = let p = placed_site v.map c e n k h in ap (cell_for v) p.2 ∙ sym (ap (cell_for v) p.1)

pub site_cell : (v : CacheValue) (c : Site) (e n k : ℕ) (s : Site) → place_in v.map c e n ≡ Some k → window_site v.map c n ≡ Some s → held_cell v s ≡ shared_cell v e k
site_cell v c e n k s h is = sym (own_cell v c e n k h ∙ ap (cell_for v) is)

pub place_inside : (m : MapValue) (c : Site) (e n k : ℕ) → place_in m c e n ≡ Some k → k < length (shared_of m e)
place_inside m c e n k h = let p = placed_site m c e n k h in slice_get_within (shared_of m e) k p.0 p.2

-- a place of the rows in front of row j
abbrev pub IsAbove : Area → Site → ℕ → ℕ → Type 0
IsAbove a c j k = (u : ℕ) × (w : ℕ) × IsNear a c k u w × (w + 4 < c.y + j)

pub above_none : (a : Area) (c : Site) (first end k : ℕ) → AreRowsOf a c first end → IsAbove a c first k → ⊥
above_none a c first end k h (u, w, n, lt) = let q = h.rows k u w n in omega (arith, lt, q.0)

module _ (v : CacheValue) (p : IsPlane v.map) (a : Area) (c : Site) (e : ℕ) (is : shared_of v.map e ≡ sites_in a) (holds : HoldsWindow v.map v.tile c) where
  near_shared : (k u w : ℕ) → IsNear a c k u w → slice_get (shared_of v.map e) k ≡ Some (site u w)
  near_shared k u w n = ap (λ ss. slice_get ss k) is ∙ near_site a c k u w n

  near_covers : (k u w : ℕ) → IsNear a c k u w → Covers (place_in v.map c e) 41 k
  near_covers k u w n = let q = near_place a c k u w n in (q.0, q.1, sym (whole_place v.map p a c e q.0 is) ∙ q.2)

  near_held : (k u w : ℕ) → IsNear a c k u w → is_held v.map v.tile (site u w) ≡ true
  near_held k u w n =
      let q = near_covers k u w n in
      let s = placed_site v.map c e q.0 k q.2 in
      let same : Some s.0 ≡ Some (site u w) = sym s.2 ∙ near_shared k u w n in
      holds q.0 (site u w) q.1 (s.1 ∙ same)

  -- a row's run is one of shared sites
  pub run_shared : (j : ℕ) (r : Run) → IsRunOf a c j r → IsSharedRun v e r
  run_shared j r h = record {
    some = h.some;
    shared = λ u lo hi. near_shared (r.start + (u - r.west)) u r.row (h.near u lo hi);
    held = λ u lo hi. near_held (r.start + (u - r.west)) u r.row (h.near u lo hi);
  }

  pub above_all : (first end j k : ℕ) → AreRowsOf a c first end → end ≤ j → Covers (place_in v.map c e) 41 k → IsAbove a c j k
  above_all first end j k h all q =
      let n = place_near a c q.0 k q.1 (whole_place v.map p a c e q.0 is ∙ q.2) in
      let r = h.rows k n.0 n.1 n.2 in
      (n.0, n.1, n.2, omega (arith, r.1, all))

  pub all_above : (j k : ℕ) → IsAbove a c j k → Covers (place_in v.map c e) 41 k
  all_above j k (u, w, n, lt) = near_covers k u w n

-- one more row
pub above_or : (a : Area) (c : Site) (j k : ℕ) → IsAbove a c (j + 1) k → IsAbove a c j k ⊎ IsInRow a c j k
above_or a c j k (u, w, n, lt) = ⊎_elim (λ h. inl (u, w, n, h)) (λ h. inr (u, w, n, h)) (less_or_same (w + 4) (c.y + j) (omega (arith, lt)))

pub or_above : (a : Area) (c : Site) (j k : ℕ) → IsAbove a c j k ⊎ IsInRow a c j k → IsAbove a c (j + 1) k
or_above a c j k (inl (u, w, n, h)) = (u, w, n, omega (arith, h))
or_above a c j k (inr (u, w, n, h)) = (u, w, n, omega (arith, h))

-- no row has a place of one in front of it
pub above_apart : (a : Area) (c : Site) (j k : ℕ) → IsAbove a c j k → IsInRow a c j k → ⊥
above_apart a c j k (u, w, n, lt) (x, y, o, is) =
    let one : Some (site u w) ≡ Some (site x y) = sym (near_site a c k u w n) ∙ near_site a c k x y o in
    let same : w ≡ y = ap (λ o. (own_or o).y) one in
    omega (arith, same, is, lt)
  where
    own_or : Option Site → Site
    own_or None = c
    own_or (Some s) = s

-- the places of a row are those of its run
module _ (a : Area) (c : Site) (j : ℕ) (r : Run) (h : IsRunOf a c j r) where
  pub in_run : (k : ℕ) → IsInRow a c j k → IsInRun r r.east k
  in_run k (u, w, n, is) = let q = h.all k u w n is in let e = q.2 in (omega (arith, e), omega (arith, e, q.0, q.1))

  pub in_row : (k : ℕ) → IsInRun r r.east k → IsInRow a c j k
  in_row k q = (k - r.start + r.west, r.row, run_near a c j r h k q.0 q.1, h.row)

pub no_row : (a : Area) (c : Site) (j k : ℕ) → IsRowRun a c j None → IsInRow a c j k → ⊥
no_row a c j k none (u, w, n, is) = none k u w n is

-- the places of a run, column by column
pub run_begins : (r : Run) (k : ℕ) → IsInRun r r.west k → ⊥
run_begins r k q = omega (arith, q.0, q.1)

module _ (r : Run) (u : ℕ) (low : r.west ≤ u) where
  pub run_or : (k : ℕ) → IsInRun r (u + 1) k → IsInRun r u k ⊎ (k ≡ r.start + (u - r.west))
  run_or k q = ⊎_elim (λ h. inl (q.0, h)) (λ h. inr h) (less_or_same k (r.start + (u - r.west)) (omega (arith, q.1, low)))

  pub or_run : (k : ℕ) → IsInRun r u k ⊎ (k ≡ r.start + (u - r.west)) → IsInRun r (u + 1) k
  or_run k (inl q) = (q.0, omega (arith, q.1, low))
  or_run k (inr q) = (omega (arith, q), omega (arith, q, low))

  pub run_apart : (k : ℕ) → IsInRun r u k → k ≡ r.start + (u - r.west) → ⊥
  run_apart k q same = omega (arith, q.1, same)

pub run_place : (v : CacheValue) (e : ℕ) (r : Run) (u : ℕ) → IsSharedRun v e r → r.west ≤ u → u < r.east → r.start + (u - r.west) < length (shared_of v.map e)
run_place v e r u h lo hi = slice_get_within (shared_of v.map e) (r.start + (u - r.west)) (site u r.row) (h.shared u lo hi)

-- a cell of a run is the tile's cell of the shared site at its place
pub run_cell : (v : CacheValue) (e : ℕ) (r : Run) (u : ℕ) → IsSharedRun v e r → r.west ≤ u → u < r.east → held_cell v (site u r.row) ≡ shared_cell v e (r.start + (u - r.west))
run_cell v e r u h lo hi = sym (ap (cell_for v) (h.shared u lo hi))

-- the places of a window, number by number
pub or_site : (places : ℕ → Option ℕ) (n k : ℕ) → Covers places n k ⊎ (places n ≡ Some k) → Covers places (n + 1) k
or_site places n k (inl c) = (c.0, omega (arith, c.1), c.2)
or_site places n k (inr at) = (n, omega arith, at)

pub no_site : (places : ℕ → Option ℕ) (k : ℕ) → Covers places 0 k → ⊥
no_site places k c = omega (arith, c.1)
