use Rattle.std.proofs.Common.{◌<◌, [], length, sym, arith}
use Rattle.std.proofs.lemmas.List.{append-nil}
use Rattle.feast_base.proofs.Appending.{Appends-at_exit, more_after}
use Rattle.world_text.specs.Values.{world_value}
use Rattle.world_text.proofs.Prints.{tries_more}
use Rattle.world_text.proofs.printed.push_lists.Goals as goal

pub returns-in_err-attempts : goal.returns-in_err-attempts
returns-in_err-attempts c =
    Appends-at_exit _ c.args.out.now.items _ c.loop-tile.out.items _ c.from_residual.result
    c.from_residual.ensures.1 c.loop-tile.invariant.kept ([], sym (append-nil c.loop-tile.out.items))

pub returns-in_err-push_tries : goal.returns-in_err-push_tries
returns-in_err-push_tries c =
    Appends-at_exit _ c.args.out.now.items _ _ _ c.from_residual-in_err-push_tries.result
    c.from_residual-in_err-push_tries.ensures.1 c.loop-tile.invariant.kept c.in_err-push_tries.ensures

pub loop-tile-preserved : goal.loop-tile-preserved
loop-tile-preserved c =
    let w = world_value c.args.world.now in
    let lt : c.loop-tile.tile < length w.plan.lists = omega
    (arith, c.requires, c.tiles-tile-end.ensures.count, c.loop-tile-test.true) in
    record {
      done = tries_more w.plane c.loop-tile.tile w.plan.lists c.loop-tile.out.items
          c.push_tries.new.out.items _ c.in_ok-attempts.attempts lt c.in_ok-attempts.ensures.value
          c.in_ok-push_tries.ensures c.loop-tile.invariant.done;
      kept = more_after _ _ _ c.loop-tile.invariant.kept (_, c.in_ok-push_tries.ensures);
    }
