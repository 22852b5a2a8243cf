use Rattle.std.proofs.Common.{◌-◌, ◌∷◌, [], arith}
use Rattle.feast_base.specs.Digits.{hex}
use Rattle.feast_base.proofs.Appending.{more_after, Appends-at_exit, piece_done}
use Rattle.feast_base.proofs.Digits.{hex_step, hex_done}
use Rattle.feast_base.proofs.text.push_hex.Goals as goal

pub loop-k-preserved : goal.loop-k-preserved
loop-k-preserved c =
    let out = c.loop-k.out.items in
    let step = hex_step c.loop-k.k c.args.n (omega arith) in
    record {
      done = piece_done out c.push.new.out.items (c.digit_at.result ∷ []) (hex (c.loop-k.k - 1) c.args.n) _ c.in_ok-push.ensures
          (rw (c.digit_at.ensures, ← step) c.loop-k.invariant.done);
      kept = more_after c.args.out.now.items out _ c.loop-k.invariant.kept (_, c.in_ok-push.ensures);
    }

pub returns-in_err-push : goal.returns-in_err-push
returns-in_err-push c =
    Appends-at_exit _ c.args.out.now.items c.loop-k.out.items _ _ c.from_residual.result c.from_residual.ensures.1 c.loop-k.invariant.kept c.in_err-push.ensures

pub returns : goal.returns
returns c = hex_done c.loop-k.out.items _ c.loop-k.k c.args.n (omega arith) c.loop-k.invariant.done
