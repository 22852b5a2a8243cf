-- Digits, one after another.
use Rattle.std.proofs.Common.{ℕ, suc, ◌≡◌, ◌+◌, ◌*◌, ◌^◌, ◌<◌, ◌≤◌, Bool, true, false, List, [], ◌∷◌, ◌++◌, fold, get_or, length, refl, ap, sym, ◌∙◌, Some, None, if◌then◌else◌, arith}
use Rattle.std.specs.List.{list_all}
use Rattle.std.proofs.lemmas.List.Folds.{list_all-append, list_all_at}
use Rattle.std.proofs.lemmas.List.Sums.{fold-append}
use Rattle.std.proofs.Math.Nat.{pow-le-pow_right, pow-suc}
use Rattle.text_lines.specs.Fields.{hex_of, hex_worth, is_digit, is_nibble, nibble}

bool_false : (b : Bool) → (b ≡ false → true ≡ false) → b ≡ true
bool_false true h = refl
bool_false false h = sym (h refl)

-- each element of a list that passes passes
pub passes : (p : ℕ → Bool) (xs : List ℕ) (i d : ℕ) → list_all p xs ≡ true → i < length xs → p (get_or xs i d) ≡ true
passes p xs i d all lt = bool_false (p (get_or xs i d)) (λ e. sym all ∙ list_all_at p xs i d lt e)

pub digit_in : (b : ℕ) → is_digit b ≡ true → (48 ≤ b) × (b ≤ 57)
digit_in b h = grind arith

pub nibble_in : (b : ℕ) → is_nibble b ≡ true → (48 ≤ b) × (nibble b < 16)
nibble_in b h = grind arith

-- a number of i digits and one more digit
pub power_more : (n v d i : ℕ) → 0 < n → v < n ^ i → d < n → v * n + d < n ^ (i + 1)
power_more n v d i some small digit =
    let e : i + 1 ≡ suc i = omega arith in
    rw (e, pow-suc n i) (times n v d (n ^ i) small digit)
  where
    times : (n v d p : ℕ) → v < p → d < n → v * n + d < p * n
    times n v d p a b = grind arith

pub power_fits : (n v i k : ℕ) → 0 < n → v < n ^ i → i ≤ k → v < n ^ k
power_fits n v i k some small le = let p = pow-le-pow_right some le in omega (arith, p)

hex_from : (v : ℕ) (ds : List ℕ) → fold (λ (v d : ℕ). v * 16 + nibble d) v ds ≡ v * 16 ^ length ds + hex_worth ds
hex_from v [] = omega arith
hex_from v (d ∷ ds) =
    let p = 16 ^ length ds in
    let more : 16 ^ suc (length ds) ≡ p * 16 = pow-suc 16 (length ds) in
    let first = hex_from (v * 16 + nibble d) ds in
    let alone = hex_from (0 * 16 + nibble d) ds in
    first ∙ digit_first v (nibble d) p (hex_worth ds) ∙ ap (λ (z : ℕ). v * (p * 16) + z) (sym alone) ∙ ap (λ (z : ℕ). v * z + hex_worth (d ∷ ds)) (sym more)
  where
    digit_first : (v d p w : ℕ) → (v * 16 + d) * p + w ≡ v * (p * 16) + ((0 * 16 + d) * p + w)
    digit_first v d p w = grind arith

-- what digits are worth behind others
pub hex_behind : (front ds : List ℕ) → hex_worth (front ++ ds) ≡ hex_worth front * 16 ^ length ds + hex_worth ds
hex_behind front ds = fold-append (λ (v d : ℕ). v * 16 + nibble d) 0 front ds ∙ hex_from (hex_worth front) ds

-- 18 digits are two, and 16 behind them
pub state_parts : (f a b : List ℕ) (high low : ℕ) → f ≡ a ++ b → length f ≡ 18 → length b ≡ 16 →
    Some high ≡ (if list_all is_nibble a then Some (hex_worth a) else None) → Some low ≡ (if list_all is_nibble b then Some (hex_worth b) else None) → Some (high * 2 ^ 64 + low) ≡ hex_of 18 f
state_parts f a b high low e long size = on (list_all is_nibble a) (list_all is_nibble b) refl refl
  where
    on : (x y : Bool) → list_all is_nibble a ≡ x → list_all is_nibble b ≡ y → Some high ≡ (if x then Some (hex_worth a) else None) → Some low ≡ (if y then Some (hex_worth b) else None) →
        Some (high * 2 ^ 64 + low) ≡ hex_of 18 f
    on false y is_x is_y h l = cc
    on true false is_x is_y h l = cc
    on true true is_x is_y h l =
        let all : list_all is_nibble f ≡ true = ap (list_all is_nibble) e ∙ list_all-append is_nibble a b ∙ rw (is_x, is_y) refl in
        let first : high ≡ hex_worth a = cc in
        let second : low ≡ hex_worth b = cc in
        let power : 2 ^ 64 ≡ 16 ^ length b = rw size refl in
        let sum : high * 2 ^ 64 + low ≡ hex_worth f = rw (first, second, power) (sym (ap hex_worth e ∙ hex_behind a b)) in
        rw (long, all) (ap Some sum)
