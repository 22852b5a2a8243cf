use Rattle.feast_base.proofs.Appending.{Appends-at_exit, more_after}
use Rattle.chain_text.specs.Printed.{every_line}
use Rattle.chain_text.proofs.Prints.{lines_more}
use Rattle.chain_text.proofs.printed.push_every.Goals as goal

pub returns-in_err-push_act : goal.returns-in_err-push_act
returns-in_err-push_act c =
    Appends-at_exit _ c.args.out.now.items c.loop-every.out.items _ _ c.from_residual.result c.from_residual.ensures.1 c.loop-every.invariant.kept c.in_err-push_act.ensures

pub loop-every-preserved : goal.loop-every-preserved
loop-every-preserved c = record {
  done = lines_more (every_line c.args.names.now) c.loop-every.every-index c.args.acts.now c.loop-every.out.items c.push_act.new.out.items _ c.every-item.result c.loop-every-test.true
      c.every-item.is c.in_ok-push_act.ensures c.loop-every.invariant.done;
  kept = more_after _ _ _ c.loop-every.invariant.kept (_, c.in_ok-push_act.ensures);
}
