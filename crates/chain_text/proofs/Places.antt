-- Decimal digits of fixed number, and chances that are printed with them.
use Rattle.std.proofs.Common.{ℕ, zero, suc, ◌≡◌, ◌+◌, ◌-◌, ◌*◌, ◌/◌, ◌%◌, ◌^◌, ◌<◌, ◌≤◌, ◌==◌, Bool, true, false, List, [], ◌∷◌, ◌++◌, codes, drop, fold, length, ap, sym, refl, ◌∙◌, arith, Some, if◌then◌else◌, eqb-true}
use Rattle.std.specs.List.{list_all}
use Rattle.std.proofs.Math.Arith.{mod-mul}
use Rattle.std.proofs.Math.ListN.{set}
use Rattle.std.proofs.Math.Nat.{div-div-eq-div-mul, mod-eq_of_lt, pow-suc}
use Rattle.std.proofs.lemmas.List.{drop-set}
use Rattle.text_lines.specs.Fields.{is_digit, worth}
use Rattle.text_lines.proofs.Digits.{power_fits}
use Rattle.chain_text.specs.Forms.{chance_of, fraction_of}
use Rattle.chain_text.specs.Printed.{chance_text, places}

pub places_none : (n : ℕ) → places 0 n ≡ []
unfolding places
places_none n = refl

-- the greatest digit, and those below it
places_step : (k n : ℕ) → 0 < k → places k n ≡ (48 + n / 10 ^ (k - 1) % 10) ∷ places (k - 1) n
unfolding places
places_step zero n h = absurd (omega arith)
places_step (suc j) n h = let e : suc j - 1 ≡ j = omega arith in rw e refl

-- one digit more, before those that are there, at the end of a text of w bytes
pub places_before : (w i n left g : ℕ) (ds : List ℕ) → 0 < i → i ≤ w → length ds ≡ w → drop i ds ≡ places (w - i) n → left ≡ n / 10 ^ (w - i) → g ≡ 48 + left % 10 →
    drop (i - 1) (set ds (i - 1) g) ≡ places (w - (i - 1)) n
places_before w i n left g ds some most size done is digit =
    let back : i - 1 + 1 ≡ i = omega arith in
    let less : w - (i - 1) - 1 ≡ w - i = omega arith in
    let step = places_step (w - (i - 1)) n (omega arith) in
    drop-set ds (i - 1) g (omega arith) ∙ ap (λ k. g ∷ drop k ds) back ∙ ap (λ z. g ∷ z) done ∙ ap (λ z. z ∷ places (w - i) n) (digit ∙ ap (λ z. 48 + z % 10) is)
    ∙ ap (λ k. (48 + n / 10 ^ k % 10) ∷ places k n) (sym less) ∙ sym step

pub tens_before : (w i n left : ℕ) → 0 < i → i ≤ w → left ≡ n / 10 ^ (w - i) → left / 10 ≡ n / 10 ^ (w - (i - 1))
tens_before w i n left some most is =
    let size : w - (i - 1) ≡ suc (w - i) = omega arith in
    ap (λ z. z / 10) is ∙ div-div-eq-div-mul n (10 ^ (w - i)) 10 ∙ ap (λ z. n / z) (sym (pow-suc 10 (w - i))) ∙ ap (λ z. n / 10 ^ z) (sym size)

digit_byte : (d : ℕ) → d < 10 → (is_digit (48 + d) ≡ true) × (48 + d - 48 ≡ d)
digit_byte d h = (grind arith, omega arith)

pub places_digits : (k n : ℕ) → list_all is_digit (places k n) ≡ true
unfolding places
places_digits zero n = refl
places_digits (suc k) n = rw (digit_byte (n / 10 ^ k % 10) (omega arith)).0 (places_digits k n)

pub places_long : (k n : ℕ) → length (places k n) ≡ k
unfolding places
places_long zero n = refl
places_long (suc k) n = let e = places_long k n in omega (arith, e)

-- what they are worth behind others
places_value : (k n v : ℕ) → fold (λ (v d : ℕ). v * 10 + (d - 48)) v (places k n) ≡ v * 10 ^ k + n % 10 ^ k
unfolding places
places_value zero n v = omega arith
places_value (suc k) n v =
    let d = n / 10 ^ k % 10 in
    let some : 0 < 10 ^ k = power_fits 10 0 0 k (omega arith) (omega arith) (omega arith) in
    let size : 10 ^ suc k ≡ 10 ^ k * 10 = pow-suc 10 k in
    let low : n % 10 ^ suc k ≡ d * 10 ^ k + n % 10 ^ k = ap (λ z. n % z) (size ∙ turned (10 ^ k)) ∙ mod-mul n (omega arith) some in
    ap (λ z. fold (λ (v d : ℕ). v * 10 + (d - 48)) (v * 10 + z) (places k n)) (digit_byte d (omega arith)).1 ∙ places_value k n (v * 10 + d) ∙ rw (low, size) (regroup v d (10 ^ k) (n % 10 ^ k))
  where
    turned : (p : ℕ) → p * 10 ≡ 10 * p
    turned p = omega arith

    regroup : (v d p r : ℕ) → (v * 10 + d) * p + r ≡ v * (p * 10) + (d * p + r)
    regroup v d p r = grind arith

places_worth : (p : ℕ) → p < 1000000000 → worth (places 9 p) * 1 ≡ p
places_worth p small =
    let value : worth (places 9 p) ≡ 0 * 10 ^ 9 + p % 10 ^ 9 = places_value 9 p 0 in
    let whole : p % 10 ^ 9 ≡ p = mod-eq_of_lt small in
    omega (arith, value, whole)

-- a printed chance is read as itself
pub chance_again : (p : ℕ) → p ≤ 1000000000 → chance_of (chance_text p) ≡ Some p
unfolding chance_of fraction_of
chance_again p most = on (p == 0) (p == 1000000000) refl refl
  where
    below : (p : ℕ) → p ≤ 1000000000 → (p == 1000000000) ≡ false → p < 1000000000
    below p most other = grind arith

    on : (a b : Bool) → (p == 0) ≡ a → (p == 1000000000) ≡ b → chance_of (if a then codes "0" else (if b then codes "1" else codes "0." ++ places 9 p)) ≡ Some p
    on true b e f = ap (λ z. Some z) (sym (eqb-true p 0 e))
    on false true e f = ap (λ z. Some z) (sym (eqb-true p 1000000000 f))
    on false false e f =
        let small : p < 1000000000 = below p most f in
        rw (places_digits 9 p, places_long 9 p) (ap (λ z. Some z) (places_worth p small))
