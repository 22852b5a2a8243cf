-- Hexadecimal digits from the last to the first.
use Rattle.std.proofs.Common.{ℕ, ◌≡◌, ◌+◌, ◌-◌, ◌*◌, ◌/◌, ◌%◌, ◌^◌, ◌<◌, ◌≤◌, List, ◌∷◌, drop, length, ap, sym, ◌∙◌, arith}
use Rattle.std.proofs.Math.ListN.{set}
use Rattle.std.proofs.lemmas.List.{drop-set}
use Rattle.std.proofs.lemmas.Nat.{pow-add}
use Rattle.std.proofs.Math.Nat.{div-div-eq-div-mul}
use Rattle.feast_base.specs.Digits.{glyph, hex}
use Rattle.feast_base.proofs.Digits.{hex_step}

-- one digit more, before those that are there, of w digits in all
pub hex_before : (w i n left g : ℕ) (ds : List ℕ) → 0 < i → i ≤ w → length ds ≡ w → drop i ds ≡ hex (w - i) n → left ≡ n / 2 ^ (4 * (w - i)) → g ≡ glyph (left % 16) →
    drop (i - 1) (set ds (i - 1) g) ≡ hex (w - (i - 1)) n
hex_before w i n left g ds some most size done is digit =
    let back : i - 1 + 1 ≡ i = omega arith in
    let less : w - (i - 1) - 1 ≡ w - i = omega arith in
    let step = hex_step (w - (i - 1)) n (omega arith) in
    drop-set ds (i - 1) g (omega arith) ∙ ap (λ k. g ∷ drop k ds) back ∙ ap (λ z. g ∷ z) done ∙ ap (λ z. z ∷ hex (w - i) n) (digit ∙ ap (λ z. glyph (z % 16)) is)
    ∙ ap (λ k. glyph (n / 2 ^ (4 * k) % 16) ∷ hex k n) (sym less) ∙ sym step

pub left_before : (w i n left : ℕ) → 0 < i → i ≤ w → left ≡ n / 2 ^ (4 * (w - i)) → left / 16 ≡ n / 2 ^ (4 * (w - (i - 1)))
left_before w i n left some most is =
    let size : 4 * (w - (i - 1)) ≡ 4 * (w - i) + 4 = omega arith in
    ap (λ z. z / 16) is ∙ div-div-eq-div-mul n (2 ^ (4 * (w - i))) 16 ∙ ap (λ z. n / z) (sym (pow-add 2 (4 * (w - i)) 4)) ∙ ap (λ z. n / 2 ^ z) (sym size)
