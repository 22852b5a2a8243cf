-- Products, quotients and neighbours.
use Rattle.std.proofs.Common.{ℕ, zero, suc, ◌≡◌, ◌+◌, ◌-◌, ◌*◌, ◌/◌, ◌<◌, ◌≤◌, ◌⊎◌, ap, arith}
use Rattle.std.proofs.lemmas.Nat.{rows}

-- the row of a place in a plane
pub div_lt : (k w h : ℕ) → 0 < w → k < w * h → k / w < h
div_lt k w h some lt = grind (arith, rows)

-- the last place of a plane, by its row and its column
pub mul_less_one : (a b : ℕ) → 1 ≤ a → 1 ≤ b → a * b - 1 ≡ (b - 1) * a + (a - 1)
mul_less_one a zero p q = absurd (omega (arith, q))
mul_less_one a (suc b) p q =
    let e : a * suc b ≡ b * a + a = grind arith in
    let less : suc b - 1 ≡ b = omega arith in
    let f = ap (λ k. k * a) less in omega (arith, e, f, p)

-- what is below n + 1
pub less_or_same : (j n : ℕ) → j < n + 1 → (j < n) ⊎ (j ≡ n)
less_or_same j n lt = grind arith

-- what is a or more
pub same_or_more : (a k : ℕ) → a ≤ k → (k ≡ a) ⊎ (a + 1 ≤ k)
same_or_more a k le = grind arith
