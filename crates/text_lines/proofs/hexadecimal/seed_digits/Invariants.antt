use Rattle.std.proofs.Common.{◌≡◌, ◌-◌, ◌*◌, ◌/◌, ◌^◌, drop, length}
use Rattle.feast_base.specs.Digits.{hex}
use Rattle.text_lines.proofs.hexadecimal.seed_digits.Given as goal

abbrev pub invariant-loop-i : goal.invariant-loop-i
invariant-loop-i l = record {
  done : drop l.i l.digits ≡ hex (16 - l.i) l.n;
  left : l.left ≡ l.n / 2 ^ (4 * (16 - l.i));
  size : length l.digits ≡ 16;
}
