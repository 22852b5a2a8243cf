use Rattle.feast_base.proofs.Appending.{Appends-at_exit, more_after}
use Rattle.chain_text.specs.Printed.{once_line}
use Rattle.chain_text.proofs.Prints.{lines_more}
use Rattle.chain_text.proofs.printed.push_once.Goals as goal

pub returns-in_err-push_act : goal.returns-in_err-push_act
returns-in_err-push_act c =
    Appends-at_exit _ c.args.out.now.items c.loop-once.out.items _ _ c.from_residual.result c.from_residual.ensures.1 c.loop-once.invariant.kept c.in_err-push_act.ensures

pub loop-once-preserved : goal.loop-once-preserved
loop-once-preserved c = record {
  done = lines_more (once_line c.args.names.now) c.loop-once.once-index c.args.acts.now c.loop-once.out.items c.push_act.new.out.items _ c.once-item.result c.loop-once-test.true
      c.once-item.is c.in_ok-push_act.ensures c.loop-once.invariant.done;
  kept = more_after _ _ _ c.loop-once.invariant.kept (_, c.in_ok-push_act.ensures);
}
