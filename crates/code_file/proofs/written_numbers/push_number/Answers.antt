use Rattle.std.proofs.Common.{◌-◌, ◌∷◌, [], arith}
use Rattle.feast_base.proofs.Appending.{more_after, Appends-at_exit, piece_done}
use Rattle.code_file.specs.Numbers.{be}
use Rattle.code_file.proofs.Bytes.{be_step, be_done}
use Rattle.code_file.proofs.written_numbers.push_number.Goals as goal

pub loop-place-preserved : goal.loop-place-preserved
loop-place-preserved c =
    let out = c.loop-place.out.items in
    let step = be_step c.loop-place.place c.args.n (omega arith) in
    record {
      done = piece_done out c.push.new.out.items (c.byte_of.result ∷ []) (be (c.loop-place.place - 1) c.args.n) _ c.in_ok-push.ensures
          (rw (c.byte_of.ensures, ← step) c.loop-place.invariant.done);
      kept = more_after c.args.out.now.items out _ c.loop-place.invariant.kept (_, c.in_ok-push.ensures);
    }

pub returns-in_err-push : goal.returns-in_err-push
returns-in_err-push c =
    Appends-at_exit _ c.args.out.now.items c.loop-place.out.items _ _ c.from_residual.result c.from_residual.ensures.1 c.loop-place.invariant.kept c.in_err-push.ensures

pub returns : goal.returns
returns c = be_done c.loop-place.out.items _ c.loop-place.place c.args.n (omega arith) c.loop-place.invariant.done
