-- Numbers with one bit set are powers of two, and a mask divides by them.
use Rattle.std.proofs.Common.{ℕ, zero, suc, ◌≡◌, ◌-◌, ◌/◌, ◌%◌, ◌≤◌, ◌⊎◌, ⊎_elim, true, ap, sym, ◌∙◌, arith, bit_and, count_ones, eqb-true}
use Rattle.std.specs.Int.{is_power_of_two, IsPowerOfTwo}
use Rattle.std.proofs.lemmas.Nat.{and_mask, zero_from_ones, ones_le_self}
use lib.Count.{ones_step}

odd_power : (n : ℕ) → count_ones n ≡ 1 → n % 2 ≡ 1 → IsPowerOfTwo n
odd_power n one odd = let half = zero_from_ones (n / 2) (omega (arith, one, odd, ones_step n)) in (0, omega (arith, half, odd))

even_power : (n : ℕ) → n % 2 ≡ 0 → IsPowerOfTwo (n / 2) → IsPowerOfTwo n
even_power n even half = (suc half.0, omega (arith, even, half.1))

parity : (n : ℕ) → (n % 2 ≡ 1) ⊎ (n % 2 ≡ 0)
parity n = grind arith

one_bit : (d n : ℕ) → n ≤ d → count_ones n ≡ 1 → IsPowerOfTwo n
one_bit zero n h one = absurd (omega (arith, one, ones_le_self n, h))
one_bit (suc d) n h one = ⊎_elim (odd_power n one) (λ even. even_power n even (one_bit d (n / 2) (omega (arith, h, one, ones_step n)) (omega (arith, one, even, ones_step n)))) (parity n)

pub rest_by_mask : (n d : ℕ) → is_power_of_two d ≡ true → bit_and n (d - 1) ≡ n % d
rest_by_mask n d one =
    let p = one_bit d d (omega arith) (eqb-true (count_ones d) 1 one) in
    ap (λ d. bit_and n (d - 1)) p.1 ∙ and_mask n p.0 ∙ ap (λ d. n % d) (sym p.1)
