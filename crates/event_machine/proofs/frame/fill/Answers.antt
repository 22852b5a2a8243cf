use Rattle.std.proofs.Common.{◌∙◌, arith}
use Rattle.event_machine.proofs.Slots.{fill_more}
use Rattle.event_machine.proofs.frame.fill.Goals as goal

pub loop-kind-preserved : goal.loop-kind-preserved
loop-kind-preserved c =
    let i = c.loop-kind.invariant in
    let room = i.room in
    let push = c.push_reserved.ensures in
    record {
      rest = fill_more c.loop-kind.kind-index c.args.kinds.now c.loop-kind.slots.items
          c.push_reserved.new.self.items _ c.first_value.result _ c.loop-kind-test.true c.first_value.ensures
          push.items i.rest;
      room = omega (arith, room, push.len, push.capacity, c.loop-kind-test.true);
      same = push.capacity ∙ i.same;
    }
