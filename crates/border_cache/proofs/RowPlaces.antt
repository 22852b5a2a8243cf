-- The sites of a window row by row, as runs of places of an area.
use Rattle.std.proofs.Common.{◌≡◌, ℕ, ◌+◌, ◌-◌, ◌*◌, ◌/◌, ◌%◌, ◌<◌, ◌≤◌, Bool, true, false, List, length, refl, sym, ap, ◌∙◌, subst, arith, ◌⊎◌, inl, inr, ⊎_elim, Option, Some, None, zero, suc, replicate}
use Rattle.std.specs.Prelude.{ℤ, slice_get, slice_index_or, if◌then◌else◌}
use Rattle.std.specs.Int.{bit_at}
use Rattle.std.proofs.lemmas.Nat.Bits.{bit_at-zero}
use Rattle.std.proofs.lemmas.Option.{none-some, slice_get_within}
use Rattle.list_laws.specs.Options.{or_zero}
use Rattle.list_laws.proofs.Numbers.{less_or_same}
use Rattle.window_sites.specs.Sites.{distance, offset_of, shift}
use Rattle.window_sites.proofs.Offsets.{offset-near, offset-found}
use Rattle.tile_map.specs.declared.span.Area.{Area}
use Rattle.tile_map.proofs.Numbers.{within_facts, within_test}
use Rattle.tile_map.specs.Plane.{Site, site, apart}
use Rattle.tile_map.specs.Tables.{sites_in}
use Rattle.tile_map.proofs.Areas.{area_number}
use Rattle.tile_map.proofs.Registers.{number_place}
use Rattle.tile_map.specs.Spans.{is_within}
use Rattle.tile_map.proofs.Near.{offset_to, offset_to-abs, shifted-offset_to, shifted-apart}
use Rattle.border_cache.specs.News.{Covers, bit_in, AreMasks, SetsRun}
use Rattle.border_cache.specs.Windows.{place_among, place_at, AreRowsOf, IsNear, IsRunOf, SetsRow}
use Rattle.border_cache.specs.declared.row_runs.Run.{Run}

-- a row of which the area has no site
pub row_none : (a : Area) (c : Site) (j : ℕ) (masks : List ℕ) → ((k u v : ℕ) → IsNear a c k u v → v + 4 ≡ c.y + j → ⊥) → SetsRow a c j masks masks
row_none a c j masks none = record { count = refl; set = λ k u v n e. absurd (none k u v n e); kept = λ k h. h; only = λ k h. inl h }

order : (k a b : ℕ) → ((a ≤ k) × (k < b)) ⊎ ((k < a) ⊎ (b ≤ k))
order k a b = grind arith

-- the site of a place
pub near_site : (a : Area) (c : Site) (k u v : ℕ) → IsNear a c k u v → slice_get (sites_in a) k ≡ Some (site u v)
near_site a c k u v n =
    let inside = within_test a.columns.first a.columns.end a.rows.first a.rows.end u v n.west n.east n.north n.south in
    (number_place (sites_in a) (site u v) k (area_number a u v ∙ (ap (λ b. if b then Some ((v - a.rows.first) * (a.columns.end - a.columns.first) + (u - a.columns.first)) else None) inside ∙ ap Some (sym n.place)))).1

module _ (a : Area) (c : Site) (j : ℕ) (r : Run) (is : IsRunOf a c j r) where
  -- the run lies within the area
  pub run_fits : r.start + (r.east - r.west) ≤ length (sites_in a)
  run_fits =
      let some = is.some in
      let low = slice_get_within (sites_in a) (r.start + (r.east - 1 - r.west)) (site (r.east - 1) r.row) (near_site a c (r.start + (r.east - 1 - r.west)) (r.east - 1) r.row (is.near (r.east - 1) (omega (arith, some)) (omega (arith, some)))) in
      omega (arith, some, low)

  -- a place of the run is near
  pub run_near : (k : ℕ) → r.start ≤ k → k < r.start + (r.east - r.west) → IsNear a c k (k - r.start + r.west) r.row
  run_near k from to =
      let e : r.start + (k - r.start + r.west - r.west) ≡ k = omega (arith, from) in
      subst (λ i. IsNear a c i (k - r.start + r.west) r.row) e (is.near (k - r.start + r.west) (omega arith) (omega (arith, from, to)))

  pub run_row : (old new : List ℕ) → SetsRun r.start (r.start + (r.east - r.west)) old new → SetsRow a c j old new
  run_row old new s = record {
    count = s.count;
    set = λ k u w n e. let p = is.all k u w n e in let q = p.2 in s.inside k (omega (arith, q)) (omega (arith, q, p.0, p.1));
    kept = λ k one. ⊎_elim (λ h. s.inside k h.0 h.1) (λ h. s.outside k h ∙ one) (order k r.start (r.start + (r.east - r.west)));
    only = λ k one. ⊎_elim (λ h. inr (k - r.start + r.west, r.row, run_near k h.0 h.1)) (λ h. inl (sym (s.outside k h) ∙ one)) (order k r.start (r.start + (r.east - r.west)));
  }

-- the rows of a window together
pub record RowsSet (a : Area) (c : Site) (j : ℕ) (masks : List ℕ) : Type 0 where
  pub count : length masks ≡ 9
  pub set : (k u v : ℕ) → IsNear a c k u v → v + 4 < c.y + j → bit_in masks k ≡ 1
  pub only : (k : ℕ) → bit_in masks k ≡ 1 → (u : ℕ) × (v : ℕ) × IsNear a c k u v

pub no_bits : (n k z : ℕ) → z ≡ 0 → slice_index_or (replicate n z) k 0 ≡ 0
no_bits zero k z is = refl
no_bits (suc n) zero z is = is
no_bits (suc n) (suc k) z is = no_bits n k z is

pub rows_begin : (a : Area) (c : Site) (first end : ℕ) (masks : List ℕ) → AreRowsOf a c first end → length masks ≡ 9 → ((k : ℕ) → slice_index_or masks k 0 ≡ 0) → RowsSet a c first masks
rows_begin a c first end masks h count none = record {
  count = count;
  set = λ k u v n lt. let q = h.rows k u v n in absurd (omega (arith, lt, q.0));
  only = λ k one. let z = ap (λ w. bit_at w (k % 64)) (none (k / 64)) ∙ bit_at-zero (k % 64) in absurd (omega (arith, one, z));
}

pub rows_more : (a : Area) (c : Site) (j : ℕ) (old new : List ℕ) → RowsSet a c j old → SetsRow a c j old new → RowsSet a c (j + 1) new
rows_more a c j old new r s = record {
  count = s.count ∙ r.count;
  set = λ k u v n lt. ⊎_elim (λ before. s.kept k (r.set k u v n before)) (λ same. s.set k u v n same) (less_or_same (v + 4) (c.y + j) (omega (arith, lt)));
  only = λ k one. ⊎_elim (λ before. r.only k before) (λ now. now) (s.only k one);
}

-- the places of a window are those that are near
module _ (a : Area) (c : Site) where
  pub place_near : (n k : ℕ) → n < 41 → place_at a c n ≡ Some k → (u : ℕ) × (v : ℕ) × IsNear a c k u v
  place_near n k lt h = go (shift c.x (offset_of n).0) refl (shift c.y (offset_of n).1) refl h
    where
      at : (u v : ℕ) → apart c.x u + apart c.y v ≤ 4 → (b : Bool) → is_within a.columns.first a.columns.end a.rows.first a.rows.end u v ≡ b
          → (if b then Some ((v - a.rows.first) * (a.columns.end - a.columns.first) + (u - a.columns.first)) else None) ≡ Some k → (u : ℕ) × (v : ℕ) × IsNear a c k u v
      at u v close true is e =
          let p = within_facts a.columns.first a.columns.end a.rows.first a.rows.end u v is in
          (u, v, record { west = p.0; east = p.1; north = p.2; south = p.3; place = sym (ap or_zero e); close = close })
      at u v close false is e = absurd (none-some k e)

      go : (o : Option ℕ) → shift c.x (offset_of n).0 ≡ o → (q : Option ℕ) → shift c.y (offset_of n).1 ≡ q → place_among a o q ≡ Some k → (u : ℕ) × (v : ℕ) × IsNear a c k u v
      go None p q r e = absurd (none-some k e)
      go (Some u) p None r e = absurd (none-some k e)
      go (Some u) p (Some v) r e =
          let x = shifted-apart c.x u (offset_of n).0 p in
          let y = shifted-apart c.y v (offset_of n).1 r in
          at u v (omega (arith, x, y, offset-near n (omega (arith, lt)))) (is_within a.columns.first a.columns.end a.rows.first a.rows.end u v) refl e

  pub near_place : (k u v : ℕ) → IsNear a c k u v → Covers (place_at a c) 41 k
  near_place k u v n =
      let o : ℤ × ℤ = (offset_to c.x u, offset_to c.y v) in
      let close : distance o ≤ 4 = omega (arith, n.close, offset_to-abs c.x u, offset_to-abs c.y v) in
      let f = offset-found o close in
      let inside = within_test a.columns.first a.columns.end a.rows.first a.rows.end u v n.west n.east n.north n.south in (
        f.0,
        omega (arith, f.1),
        ap (λ (p : ℤ × ℤ). place_among a (shift c.x p.0) (shift c.y p.1)) f.2
            ∙ ((λ i. place_among a (shifted-offset_to c.x u i) (shifted-offset_to c.y v i))
            ∙ (ap (λ b. if b then Some ((v - a.rows.first) * (a.columns.end - a.columns.first) + (u - a.columns.first)) else None) inside ∙ ap Some (sym n.place))),
      )

  pub rows_all : (first end j : ℕ) (masks : List ℕ) → AreRowsOf a c first end → end ≤ j → RowsSet a c j masks → AreMasks (place_at a c) 41 masks
  rows_all first end j masks h all r = record {
    set = λ k cov. let n = place_near cov.0 k cov.1 cov.2 in let q = h.rows k n.0 n.1 n.2 in r.set k n.0 n.1 n.2 (omega (arith, q.1, all));
    only = λ k one. let n = r.only k one in near_place k n.0 n.1 n.2;
  }
