use Rattle.std.proofs.Common.{◌++◌, sym, subst, ◌∙◌}
use Rattle.serial_order.specs.Scene.{logs_of}
use Rattle.serial_order.specs.Outcomes.{values_of}
use Rattle.serial_order.proofs.Outcomes.{AllMade, made_first, log_more}
use Rattle.serial_order.proofs.outcome.logs.Goals as goal

pub loop-tile-init : goal.loop-tile-init
loop-tile-init g c =
    let is = c.into_iter-tile-iterator.ensures.into_iter_gives.0 in
    record {
      done = (λ i. c.new-logs.ensures.items i ++ logs_of (values_of (is i)));
      made = subst AllMade (sym is) c.requires;
    }

pub into_log-requires : goal.into_log-requires
into_log-requires g c = (made_first c.in-Some.tile c.next.new.self.rest.items c.loop-tile.tile-iterator.rest.items c.in-Some.ensures.steps.0 c.loop-tile.invariant.made).0

pub loop-tile-preserved : goal.loop-tile-preserved
loop-tile-preserved g c =
    let rest = c.next.new.self.rest.items in
    let before = c.loop-tile.tile-iterator.rest.items in
    let is = c.in-Some.ensures.steps.0 in
    record {
      done = log_more c.loop-tile.logs.items c.push.new.self.items c.into_log.result c.in-Some.tile rest before is c.in_ok-push.ensures.items c.into_log.ensures ∙ c.loop-tile.invariant.done;
      made = (made_first c.in-Some.tile rest before is c.loop-tile.invariant.made).1;
    }
