-- The two words of a cell.
use Rattle.std.proofs.Common.{◌≡◌, ℕ, ◌%◌, ◌^◌, ◌<◌, arith}
use Rattle.std.proofs.Common.{◌≢◌}
use Rattle.std.specs.Int.{bit_at}
use Rattle.std.proofs.Common.{true, false}
use Rattle.edge_lock.specs.History.{IsAllowed}
use Rattle.edge_lock.specs.Edges.{news_register}
use Rattle.std.specs.Prelude.{bit_and, bit_or}
use Rattle.std.specs.Int.{bit_not, w64}
use Rattle.border_cache.specs.Published.{IsWithMask}
use Rattle.std.proofs.lemmas.Nat.Bits.{bit_at-lt, bit_at_and, bit_at_or, bit_at_not}
use Rattle.bit_field.specs.Atom.{LeavesGap}

pub low_gap : (high : ℕ) → LeavesGap high → LeavesGap (high % 2 ^ 32)
low_gap high h = grind (arith, h)

pub bit_one : (n i : ℕ) → bit_at n i ≢ 0 → bit_at n i ≡ 1
bit_one n i h = let lt = bit_at-lt n i in omega (arith, h, lt)

pub sets : (n mask : ℕ) → IsWithMask n mask true (bit_or n mask)
sets n mask = record {
  same = λ i lt h. let low = bit_at-lt n i in omega (arith, bit_at_or n mask i, h, low);
  others = λ i lt h. omega (arith, bit_at_or n mask i, h);
}

pub clears : (n mask : ℕ) → mask < 2 ^ 64 → IsWithMask n mask false (bit_and n (bit_not w64 mask))
clears n mask fits = record {
  same = λ i lt h. omega (arith, bit_at_and n (bit_not w64 mask) i, bit_at_not w64 mask i fits lt, h);
  others = λ i lt h. let low = bit_at-lt n i in omega (arith, bit_at_and n (bit_not w64 mask) i, bit_at_not w64 mask i fits lt, h, low);
}

pub word_allowed : (n end j v : ℕ) → IsAllowed n (news_register n end j) v
word_allowed n end j v site lt is = absurd (omega (arith, lt, is))
