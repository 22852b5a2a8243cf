-- Hexadecimal digits, one after another.
use Rattle.std.proofs.Common.{ℕ, zero, suc, ◌≡◌, ◌+◌, ◌-◌, ◌*◌, ◌/◌, ◌%◌, ◌^◌, ◌<◌, List, [], ◌∷◌, ◌++◌, refl, ap, sym, ◌∙◌, arith}
use Rattle.std.proofs.lemmas.List.{append-nil}
use Rattle.std.proofs.Math.Nat.{div-one, div-div-eq-div-mul}
use Rattle.std.proofs.lemmas.Nat.{pow-add, div-mul-add, mod-mul-add, mul-add-lt}
use Rattle.feast_base.specs.Digits.{glyph, hex}

-- no digits
pub hex_none : (n : ℕ) → hex 0 n ≡ []
unfolding hex
hex_none n = refl

-- the greatest digit, and those below it
pub hex_step : (k n : ℕ) → 0 < k → hex k n ≡ glyph (n / 2 ^ (4 * (k - 1)) % 16) ∷ hex (k - 1) n
unfolding hex
hex_step zero n h = absurd (omega arith)
hex_step (suc j) n h = let e : suc j - 1 ≡ j = omega arith in rw e refl

-- where no digit is left, the text is whole
pub hex_done : (out whole : List ℕ) (k n : ℕ) → k ≡ 0 → out ++ hex k n ≡ whole → out ≡ whole
hex_done out whole k n z h = sym (append-nil out) ∙ ap (λ y. out ++ y) (sym (hex_none n)) ∙ ap (λ j. out ++ hex j n) (sym z) ∙ h

hex_more_suc : (k v d : ℕ) → d < 16 → hex (suc k) (v * 16 + d) ≡ hex k v ++ (glyph d ∷ [])
unfolding hex
hex_more_suc zero v d h =
    let p : (v * 16 + d) / 1 ≡ v * 16 + d = div-one (v * 16 + d) in
    rw (p, mod-mul-add v 16 d h) refl
hex_more_suc (suc k) v d h =
    let size : 2 ^ (4 * suc k) ≡ 16 * 2 ^ (4 * k) = let e : 4 * suc k ≡ 4 + 4 * k = omega arith in rw (e, pow-add 2 4 (4 * k)) refl in
    let high : (v * 16 + d) / 2 ^ (4 * suc k) ≡ v / 2 ^ (4 * k) =
    rw size (sym (div-div-eq-div-mul (v * 16 + d) 16 (2 ^ (4 * k))) ∙ ap (λ z. z / 2 ^ (4 * k)) (div-mul-add v 16 d h)) in
    ap (λ z. glyph (z % 16) ∷ hex (suc k) (v * 16 + d)) high ∙ ap (λ z. glyph (v / 2 ^ (4 * k) % 16) ∷ z) (hex_more_suc k v d h)

-- one more low digit
pub hex_more : (k v d : ℕ) → d < 16 → hex (k + 1) (v * 16 + d) ≡ hex k v ++ (glyph d ∷ [])
hex_more k v d h = let e : k + 1 ≡ suc k = omega arith in rw e (hex_more_suc k v d h)

-- a number of one more digit fits
pub hex_small : (v d i : ℕ) → v < 2 ^ (4 * i) → d < 16 → v * 16 + d < 2 ^ (4 * (i + 1))
hex_small v d i small digit =
    let size : 2 ^ (4 * (i + 1)) ≡ 16 * 2 ^ (4 * i) = let e : 4 * (i + 1) ≡ 4 + 4 * i = omega arith in rw (e, pow-add 2 4 (4 * i)) refl in
    rw size (mul-add-lt v 16 d (2 ^ (4 * i)) small digit)
