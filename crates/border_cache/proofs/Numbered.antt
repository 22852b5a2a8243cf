-- The table of the numbers of a window's sites, row by row.
use Rattle.std.proofs.Common.{◌≡◌, ℕ, ◌+◌, ◌*◌, ◌/◌, ◌%◌, ◌<◌, ◌≤◌, Bool, true, ◌&&◌, ◌||◌, get_or, refl, sym, ap, ◌∙◌, subst, arith, Some, None}
use Rattle.std.specs.Prelude.{ℤ, pos, negsuc, not, nat_le, ◌==◌, if◌then◌else◌}
use Rattle.std.specs.List.{list_all, range_with_len}
use Rattle.std.specs.Int.RustNames.{unsigned_abs}
use Rattle.std.proofs.lemmas.Bool.Decides.{nat_tests}
use Rattle.std.proofs.lemmas.List.FromFn.{length-range_with_len, get_or-range_with_len}
use Rattle.list_laws.proofs.Entries.{all_get}
use Rattle.list_laws.proofs.Tests.{both}
use Rattle.window_sites.specs.Sites.{sites, offset_of, shift}
use Rattle.window_sites.specs.Inner.{from_low}
use Rattle.window_sites.proofs.Offsets.{offset-near}
use Rattle.tile_map.specs.Plane.{Site, MapValue, site, is_live, apart}
use Rattle.tile_map.specs.Edges.{live_site, window_site}
use Rattle.border_cache.specs.declared.numbers.TheConstants.{NUMBERS}
use Rattle.border_cache.specs.Reached.{IsNumbered}

abbrev is_near : ℕ → Bool
is_near k = nat_le (apart 4 (k / 9) + apart 4 (k % 9)) 4

abbrev is_numbered : ℕ → ℕ → Bool
is_numbered k n = nat_le n 40 && (from_low (offset_of n).1 == k / 9 && from_low (offset_of n).0 == k % 9)

abbrev is_right : ℕ → Bool
is_right k = not (is_near k) || is_numbered k (get_or NUMBERS k 0)

all_right : list_all is_right (range_with_len 0 81) ≡ true
unfolding sites
all_right = refl

right : (k : ℕ) → k < 81 → is_right k ≡ true
right k lt =
    let here : get_or (range_with_len 0 81) k 0 ≡ k = get_or-range_with_len 0 81 k 0 lt ∙ omega arith in
    subst (λ i. is_right i ≡ true) here (all_get is_right (range_with_len 0 81) k 0 all_right (omega (arith, lt, length-range_with_len 0 81)))

near_right : (k : ℕ) → is_right k ≡ true → is_near k ≡ true → is_numbered k (get_or NUMBERS k 0) ≡ true
near_right k h near = ap (λ b. not b || is_numbered k (get_or NUMBERS k 0)) (sym near) ∙ h

pub numbered : (row column : ℕ) → apart 4 row + apart 4 column ≤ 4 → IsNumbered row column (get_or NUMBERS (9 * row + column) 0)
numbered row column near =
    let k : ℕ = 9 * row + column in
    let n = get_or NUMBERS k 0 in
    let lt : k < 81 = omega (arith, near) in
    let low : column < 9 = omega (arith, near) in
    let r : k / 9 ≡ row = grind (arith, low) in
    let c : k % 9 ≡ column = grind (arith, low) in
    let close : apart 4 (k / 9) + apart 4 (k % 9) ≤ 4 = omega (arith, near, r, c) in
    let is : is_near k ≡ true = grind (arith, nat_tests, close) in
    let h = both (nat_le n 40) (from_low (offset_of n).1 == k / 9 && from_low (offset_of n).0 == k % 9) (near_right k (right k lt) is) in
    let small : n ≤ 40 = let p = h.0 in grind (arith, nat_tests, p) in
    let q = both (from_low (offset_of n).1 == k / 9) (from_low (offset_of n).0 == k % 9) h.1 in
    let y : from_low (offset_of n).1 ≡ k / 9 = let p = q.0 in grind (arith, nat_tests, p) in
    let x : from_low (offset_of n).0 ≡ k % 9 = let p = q.1 in grind (arith, nat_tests, p) in
    record { small = small; row_is = y ∙ r; column_is = x ∙ c }

-- a coordinate that is so far from another is that one shifted
shifted : (x u i : ℕ) (d : ℤ) → unsigned_abs d ≤ 4 → from_low d ≡ i → u + 4 ≡ x + i → shift x d ≡ Some u
shifted x u i (pos d) far is at = let e : x + d ≡ u = omega (arith, is, at) in ap Some e
shifted x u i (negsuc d) far is at = grind (arith, nat_tests, far, is, at)

-- the live site in a row and a column of a window
pub numbered_site : (m : MapValue) (c : Site) (row column n u w : ℕ) → IsNumbered row column n → w + 4 ≡ c.y + row → u + 4 ≡ c.x + column → is_live m (site u w) ≡ true → window_site m c n ≡ Some (site u w)
numbered_site m c row column n u w h y x live =
    let near = offset-near n h.small in
    let p = shifted c.x u column (offset_of n).0 (omega (arith, near)) h.column_is x in
    let q = shifted c.y w row (offset_of n).1 (omega (arith, near)) h.row_is y in
    (λ i. live_site m (p i) (q i)) ∙ ap (λ b. if b then Some (site u w) else None) live
