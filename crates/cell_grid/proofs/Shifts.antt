-- A coordinate with an offset added, in numbers of 32 bits that go around.
use Rattle.std.proofs.Common.{ℕ, suc, ◌≡◌, ◌+◌, ◌-◌, ◌%◌, ◌^◌, ◌≤◌, ◌<◌, Some, refl, ap, ◌∙◌, arith, inl, inr}
use Rattle.std.specs.Prelude.{ℤ, pos, negsuc}
use Rattle.std.specs.Int.{w32, cast_unsigned}
use Rattle.std.specs.Int.RustNames.{unsigned_abs}
use Rattle.std.proofs.Math.Nat.{mod-eq_of_lt, add-mod_right}
use Rattle.std.proofs.lemmas.Bool.{cases_lt, lt-ltb, le-ltb}
use Rattle.cell_grid.specs.Grid.{below}
use Rattle.window_sites.specs.Sites.{shift}

-- what goes around the end of the numbers lies above any end
pub shift_around : (x end : ℕ) (d : ℤ) → x < 2 ^ 31 → end ≤ 2 ^ 31 → unsigned_abs d ≤ 4 →
    below end (Some ((x + cast_unsigned w32 d) % 2 ^ 32)) ≡ below end (shift x d)
shift_around x end (pos d) a b c =
    let same : (x + d) % 2 ^ 32 ≡ x + d = mod-eq_of_lt (omega (arith, a, c)) in
    ap (λ u. below end (Some u)) same
shift_around x end (negsuc d) a b c = elim (cases_lt d x) [
  | inl back ↦
      let whole : x + (2 ^ 32 - suc d) ≡ x - d - 1 + 2 ^ 32 = omega (arith, a, back, c) in
      let same : (x + (2 ^ 32 - suc d)) % 2 ^ 32 ≡ x - d - 1 = ap (λ n. n % 2 ^ 32) whole ∙ add-mod_right (x - d - 1) (2 ^ 32) ∙ mod-eq_of_lt (omega (arith, a)) in
      rw (same, lt-ltb d x back) refl
  | inr under ↦
      let same : (x + (2 ^ 32 - suc d)) % 2 ^ 32 ≡ x + (2 ^ 32 - suc d) = mod-eq_of_lt (omega (arith, under, c)) in
      let far : end ≤ x + (2 ^ 32 - suc d) = omega (arith, b, c) in
      rw (same, le-ltb d x under, le-ltb (x + (2 ^ 32 - suc d)) end far) refl
]
