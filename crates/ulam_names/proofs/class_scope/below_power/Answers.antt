use Rattle.std.proofs.Common.{◌≤◌, ◌^◌, arith, rules}
use Rattle.std.proofs.lemmas.Int.{ints}
use Rattle.std.proofs.Math.Nat.{pow-le-pow_right}
use Rattle.ulam_names.proofs.class_scope.below_power.Goals as goal

pub returns-then-width-ge127 : goal.returns-then-width-ge127
returns-then-width-ge127 c =
    let up : 2 ^ 127 ≤ 2 ^ c.args.width = pow-le-pow_right {n = 2} (omega arith) {i = 127} {j = c.args.width} c.if-width-ge127.true in
    first_of (grind (arith, ints, up, c.ranges.value.sfits), search (rules, ints), grind (arith, ints))
