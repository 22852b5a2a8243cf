-- Hexadecimal digits, two at a time.
use Rattle.std.proofs.Common.{ℕ, zero, suc, ◌≡◌, ◌+◌, ◌-◌, ◌*◌, ◌/◌, ◌%◌, ◌^◌, ◌<◌, Bool, true, ◌&&◌, T, eqb, ◌∷◌, get_or, inl, inr, ap, sym, ◌∙◌, arith, eq-zero-or-pos, eqb→eq}
use Rattle.std.proofs.Math.Nat.{div-div-eq-div-mul}
use Rattle.std.proofs.lemmas.Nat.{pow-add}
use lib.Ieee.Fits.{and_l, and_r}
use Rattle.feast_base.specs.Digits.{glyph, hex}
use Rattle.feast_base.proofs.Digits.{hex_step}
use Rattle.report_text.specs.declared.line.TheConstants.{PAIRS}

abbrev are_pairs : ℕ → Bool
are_pairs zero = true
are_pairs (suc b) = (eqb (get_or PAIRS (b * 2) 0) (glyph (b / 16)) && eqb (get_or PAIRS (b * 2 + 1) 0) (glyph (b % 16))) && are_pairs b

below : (n b : ℕ) → T (are_pairs n) → b < n → (get_or PAIRS (b * 2) 0 ≡ glyph (b / 16)) × (get_or PAIRS (b * 2 + 1) 0 ≡ glyph (b % 16))
below zero b t h = absurd (omega arith)
below (suc n) b t h =
    elim (eq-zero-or-pos (n - b)) [
      | inl z ↦ let e : b ≡ n = omega arith in let a = and_l _ (are_pairs n) t in rw e (eqb→eq _ _ (and_l _ _ a), eqb→eq _ _ (and_r _ _ a))
      | inr g ↦ below n b (and_r _ (are_pairs n) t) (omega arith)
    ]

-- the table has the digits of each byte
pub PAIRS_at : (b : ℕ) → b < 256 → (get_or PAIRS (b * 2) 0 ≡ glyph (b / 16)) × (get_or PAIRS (b * 2 + 1) 0 ≡ glyph (b % 16))
PAIRS_at b h = below 256 b tt h

-- what is left of a number after i bytes, and after one more
pub left_after : (i n left : ℕ) → left ≡ n / 2 ^ (8 * i) → left / 256 ≡ n / 2 ^ (8 * (i + 1))
left_after i n left is =
    let size : 8 * (i + 1) ≡ 8 * i + 8 = omega arith in
    ap (λ z. z / 256) is ∙ div-div-eq-div-mul n (2 ^ (8 * i)) 256 ∙ ap (λ z. n / z) (sym (pow-add 2 (8 * i) 8)) ∙ ap (λ z. n / 2 ^ z) (sym size)

-- two digits more, before those that are there
pub pair_before : (i n left : ℕ) → left ≡ n / 2 ^ (8 * i) → hex (2 * (i + 1)) n ≡ glyph (left % 256 / 16) ∷ glyph (left % 256 % 16) ∷ hex (2 * i) n
pair_before i n left is =
    let one : 2 * (i + 1) - 1 ≡ 2 * i + 1 = omega arith in
    let two : 2 * i + 1 - 1 ≡ 2 * i = omega arith in
    let four : 4 * (2 * i) ≡ 8 * i = omega arith in
    let eight : 4 * (2 * i + 1) ≡ 8 * i + 4 = omega arith in
    let high : n / 2 ^ (8 * i + 4) ≡ left / 16 = ap (λ z. n / z) (pow-add 2 (8 * i) 4) ∙ sym (div-div-eq-div-mul n (2 ^ (8 * i)) 16) ∙ ap (λ z. z / 16) (sym is) in
    let tens : left / 16 % 16 ≡ left % 256 / 16 = omega arith in
    let ones : left % 16 ≡ left % 256 % 16 = omega arith in
    rw (hex_step (2 * (i + 1)) n (omega arith), one, hex_step (2 * i + 1) n (omega arith), two, eight, four, high, sym is, tens, ones)
