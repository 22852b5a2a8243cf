use Rattle.std.proofs.Common.{◌≡◌, ◌+◌, ◌-◌, ◌*◌, drop, ap, sym, arith}
use Rattle.std.proofs.Math.Nat.{div-one}
use Rattle.feast_base.proofs.Digits.{hex_none}
use Rattle.report_text.proofs.Pairs.{left_after, pair_before}
use Rattle.report_text.proofs.line.write_state.Goals as goal

pub loop-pair-init : goal.loop-pair-init
loop-pair-init c = record { done = rw (hex_none c.args.n) (ap (λ k. drop k c.args.line.now) (omega arith)); left = sym (div-one c.args.n) }

pub loop-pair-preserved : goal.loop-pair-preserved
loop-pair-preserved c =
    let l = c.loop-pair in
    let start : c.args.end - 2 * (l.pair + 1) ≡ c.args.end - 2 - 2 * l.pair = omega arith in
    let after : c.args.end - 2 - 2 * l.pair + 2 ≡ c.args.end - 2 * l.pair = omega arith in
    record {
      done = rw (start, c.write_pair.ensures, after, l.invariant.done, pair_before l.pair c.args.n l.left l.invariant.left);
      left = left_after l.pair c.args.n l.left l.invariant.left;
    }
