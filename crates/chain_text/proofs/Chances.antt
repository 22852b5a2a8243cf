-- What digits after a point are worth.
use Rattle.std.proofs.Common.{ℕ, suc, ◌≡◌, ◌+◌, ◌-◌, ◌*◌, ◌^◌, ◌<◌, ◌≤◌, Bool, true, false, ◌&&◌, List, [], ◌∷◌, codes, bytes_eq, drop, fold, length, nat_le, refl, arith, Some, None, subst, take, if◌then◌else◌}
use Rattle.std.specs.List.{list_all}
use Rattle.std.proofs.lemmas.Nat.{pow-add}
use Rattle.std.proofs.Math.Nat.{mul-lt-mul_of_pos_right}
use Rattle.list_laws.proofs.Tests.{both}
use Rattle.tile_map.proofs.Spans.{test_le}
use Rattle.text_lines.specs.Fields.{is_digit, worth}
use Rattle.text_lines.proofs.Digits.{digit_in, power_fits, power_more}
use Rattle.chain_text.specs.Forms.{are_places, billionths_of, chance_of, fraction_of}

-- what digits are worth behind others
digits_below : (ds : List ℕ) (v k : ℕ) → list_all is_digit ds ≡ true → v < 10 ^ k → fold (λ (v d : ℕ). v * 10 + (d - 48)) v ds < 10 ^ (k + length ds)
digits_below [] v k all small = subst (λ j. v < 10 ^ j) (omega arith) small
digits_below (d ∷ ds) v k all small =
    let h = both (is_digit d) (list_all is_digit ds) all in
    let digit = digit_in d h.0 in
    let next = power_more 10 v (d - 48) k (omega arith) small (omega (arith, digit.0, digit.1)) in
    let count : k + 1 + length ds ≡ k + suc (length ds) = omega arith in
    subst (λ j. fold (λ (v d : ℕ). v * 10 + (d - 48)) (v * 10 + (d - 48)) ds < 10 ^ j) count (digits_below ds (v * 10 + (d - 48)) (k + 1) h.1 next)

-- a number of so many digits
pub worth_below : (ds : List ℕ) → list_all is_digit ds ≡ true → worth ds < 10 ^ length ds
worth_below ds all = let count : 0 + length ds ≡ length ds = omega arith in subst (λ j. worth ds < 10 ^ j) count (digits_below ds 0 0 all (omega arith))

-- a number of k digits, with zeros behind it
pub scaled : (w k : ℕ) → k ≤ 9 → w < 10 ^ k → w * 10 ^ (9 - k) < 1000000000
scaled w k le small =
    let some : 0 < 10 ^ (9 - k) = power_fits 10 0 0 (9 - k) (omega arith) (omega arith) (omega arith) in
    let more = mul-lt-mul_of_pos_right small some in
    let nine : k + (9 - k) ≡ 9 = omega arith in
    let whole : 10 ^ k * 10 ^ (9 - k) ≡ 1000000000 = rw (← pow-add 10 k (9 - k), nine) refl in
    subst (λ z. w * 10 ^ (9 - k) < z) whole more

-- one to nine digits
pub places_are : (ds : List ℕ) → are_places ds ≡ true → (list_all is_digit ds ≡ true) × (1 ≤ length ds) × (length ds ≤ 9)
places_are ds h =
    let p = both (list_all is_digit ds) (nat_le 1 (length ds) && nat_le (length ds) 9) h in
    let q = both (nat_le 1 (length ds)) (nat_le (length ds) 9) p.1 in
    (p.0, test_le 1 (length ds) q.0, test_le (length ds) 9 q.1)

pub billionths_below : (ds : List ℕ) → are_places ds ≡ true → billionths_of ds < 1000000000
billionths_below ds h = let p = places_are ds h in scaled (worth ds) (length ds) p.2 (worth_below ds p.0)

-- a chance is at most 1
pub chance_below : (f : List ℕ) (p : ℕ) → chance_of f ≡ Some p → p ≤ 1000000000
unfolding chance_of fraction_of
chance_below f p h = on (bytes_eq f (codes "0")) (bytes_eq f (codes "1")) (bytes_eq (take 2 f) (codes "0.")) (are_places (drop 2 f)) refl h
  where
    on : (a b c d : Bool) → are_places (drop 2 f) ≡ d →
        (if a then Some 0 else (if b then Some 1000000000 else (if c && d then Some (billionths_of (drop 2 f)) else None))) ≡ Some p → p ≤ 1000000000
    on true b c d is e = let same : 0 ≡ p = cc in omega (arith, same)
    on false true c d is e = let same : 1000000000 ≡ p = cc in omega (arith, same)
    on false false true true is e = let same : billionths_of (drop 2 f) ≡ p = cc in let small = billionths_below (drop 2 f) is in omega (arith, same, small)
    on false false true false is e = cc
    on false false false d is e = cc
