-- Windows all of whose sites are live: the sites between four live corners are live, since tiles have at least eight columns and rows.
use Rattle.std.proofs.Common.{◌≡◌, ℕ, ◌+◌, ◌-◌, ◌*◌, ◌/◌, ◌<◌, ◌≤◌, true, refl, ap, ◌∙◌, arith, ⊎_elim, ◌⊎◌, inl, inr, Some, None, ltb-true}
use Rattle.std.specs.Prelude.{ℤ, pos, negsuc, is_some, if◌then◌else◌}
use Rattle.std.specs.Int.RustNames.{unsigned_abs}
use Rattle.std.proofs.lemmas.Bool.Decides.{nat_tests}
use Rattle.std.proofs.lemmas.Nat.{le-div}
use Rattle.std.proofs.Math.Nat.{div-mul-le_self, add-div_left}
use Rattle.list_laws.proofs.Numbers.{less_or_same}
use Rattle.list_laws.proofs.Tests.{both, together}
use Rattle.window_sites.specs.Sites.{offset_of, shift}
use Rattle.window_sites.proofs.Offsets.{offset-near}
use Rattle.tile_map.specs.Plane.{Site, MapValue, IsMap, site, is_on, is_live, owner_of}
use Rattle.tile_map.specs.Edges.{live_site}
use Rattle.tile_map.proofs.Spans.{live_plane, plane_test}
use Rattle.border_cache.specs.Windows.{IsWhole}

-- a greater number has no smaller quotient
div_grows : (w a b : ℕ) → 8 ≤ w → a ≤ b → a / w ≤ b / w
div_grows w a b large le = le-div (a / w) b w (omega (arith, large)) (omega (arith, le, div-mul-le_self a w))

-- what lies between two numbers that are at most a part's size apart is in the part of one of them
pub in_part : (w a b u : ℕ) → 8 ≤ w → a ≤ u → u ≤ b → b ≤ a + 8 → (u / w ≡ a / w) ⊎ (u / w ≡ b / w)
in_part w a b u large low high near =
    let p = div_grows w a u large low in
    let q = div_grows w u b large high in
    let r : b / w ≤ (w + a) / w = div_grows w b (w + a) large (omega (arith, near, large)) in
    let s : (w + a) / w ≡ a / w + 1 = add-div_left a (omega (arith, large)) in
    ⊎_elim
    (λ (h : u / w < a / w + 1). inl (omega (arith, h, p)))
    (λ (h : u / w ≡ a / w + 1). inr (omega (arith, h, q, r, s)))
    (less_or_same (u / w) (a / w + 1) (omega (arith, q, r, s)))

-- a site has the owner of another that is in the same column and the same row of tiles
corner_on : (m : MapValue) (a b u v : ℕ) → is_live m (site a b) ≡ true → u / m.w ≡ a / m.w → v / m.h ≡ b / m.h → is_on m (owner_of m (site u v)) ≡ true
corner_on m a b u v live e f = (λ i. is_on m (f i * m.tx + e i)) ∙ (both _ _ live).1

-- the four corners of nine columns and rows are live
pub record HasCorners (m : MapValue) (x y : ℕ) : Type 0 where
  pub west : 4 ≤ x
  pub north : 4 ≤ y
  pub low_left : is_live m (site (x - 4) (y - 4)) ≡ true
  pub low_right : is_live m (site (x + 4) (y - 4)) ≡ true
  pub high_left : is_live m (site (x - 4) (y + 4)) ≡ true
  pub high_right : is_live m (site (x + 4) (y + 4)) ≡ true

module _ (m : MapValue) (valid : IsMap m) (x y : ℕ) (c : HasCorners m x y) where
  pub live_between : (u v : ℕ) → x ≤ u + 4 → u ≤ x + 4 → y ≤ v + 4 → v ≤ y + 4 → is_live m (site u v) ≡ true
  live_between u v ul uh vl vh =
      let inside = both _ _ (live_plane m (site (x + 4) (y + 4)) c.high_right) in
      let wide = ltb-true (x + 4) (m.tx * m.w) inside.0 in
      let tall = ltb-true (y + 4) (m.ty * m.h) inside.1 in
      let column = in_part m.w (x - 4) (x + 4) u valid.sizes.w_low (omega (arith, ul, c.west)) uh (omega (arith, c.west)) in
      let row = in_part m.h (y - 4) (y + 4) v valid.sizes.h_low (omega (arith, vl, c.north)) vh (omega (arith, c.north)) in
      together _ _ (plane_test m u v (omega (arith, uh, wide)) (omega (arith, vh, tall)))
      (⊎_elim
      (λ (e : u / m.w ≡ (x - 4) / m.w). ⊎_elim
      (λ (f : v / m.h ≡ (y - 4) / m.h). corner_on m (x - 4) (y - 4) u v c.low_left e f)
      (λ (f : v / m.h ≡ (y + 4) / m.h). corner_on m (x - 4) (y + 4) u v c.high_left e f)
      row)
      (λ (e : u / m.w ≡ (x + 4) / m.w). ⊎_elim
      (λ (f : v / m.h ≡ (y - 4) / m.h). corner_on m (x + 4) (y - 4) u v c.low_right e f)
      (λ (f : v / m.h ≡ (y + 4) / m.h). corner_on m (x + 4) (y + 4) u v c.high_right e f)
      row)
      column)

-- a coordinate that is at least 4, with an offset of at most 4
record IsNear (x : ℕ) (d : ℤ) : Type 0 where
  at : ℕ
  is : shift x d ≡ Some at
  low : x ≤ at + 4
  high : at ≤ x + 4

near : (x : ℕ) (d : ℤ) → 4 ≤ x → unsigned_abs d ≤ 4 → IsNear x d
near x (pos d) far small = record { at = x + d; is = refl; low = omega arith; high = omega (arith, small) }
near x (negsuc d) far small = record { at = x - d - 1; is = grind (arith, nat_tests, far, small); low = omega arith; high = omega arith }

-- a window between live corners is whole
pub corners_whole : (m : MapValue) → IsMap m → (c : Site) → HasCorners m c.x c.y → IsWhole m c
corners_whole m valid c corners n lt =
    let close = offset-near n (omega (arith, lt)) in
    let p = near c.x (offset_of n).0 corners.west (omega (arith, close)) in
    let q = near c.y (offset_of n).1 corners.north (omega (arith, close)) in
    let live = live_between m valid c.x c.y corners p.at q.at p.low p.high q.low q.high in
    (λ i. is_some (live_site m (p.is i) (q.is i))) ∙ ap (λ b. is_some (if b then Some (site p.at q.at) else None)) live
