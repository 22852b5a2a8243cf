use Rattle.std.proofs.Common.{◌≡◌, ◌≤◌, ◌-◌, ◌/◌, ◌^◌, codes, drop, length, take}
use Rattle.chain_text.specs.Printed.{places}
use Rattle.chain_text.proofs.chance.fraction_text.Given as goal

abbrev pub invariant-loop-i : goal.invariant-loop-i
invariant-loop-i l = record {
  low : 2 ≤ l.i;
  front : take 2 l.text ≡ codes "0.";
  done : drop l.i l.text ≡ places (11 - l.i) l.billionths;
  left : l.left ≡ l.billionths / 10 ^ (11 - l.i);
  size : length l.text ≡ 11;
}
