use Rattle.std.proofs.Common.{◌≡◌, ◌-◌, ◌*◌, ◌/◌, ◌^◌, ◌++◌, drop}
use Rattle.feast_base.specs.Digits.{hex}
use Rattle.report_text.proofs.line.write_state.Given as goal

abbrev pub invariant-loop-pair : goal.invariant-loop-pair
invariant-loop-pair l = record {
  done : drop (l.end - 2 * l.pair) l.line ≡ hex (2 * l.pair) l.n ++ drop l.end l.fn.line;
  left : l.left ≡ l.n / 2 ^ (8 * l.pair);
}
