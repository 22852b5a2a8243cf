use Rattle.code_file.specs.Reading.{times, slot_at}
use Rattle.code_file.proofs.Loops.{stops_at, value_more, value_stops, values_done}
use Rattle.code_file.proofs.functions.slots_in.Goals as goal

pub returns-in_err-slot : goal.returns-in_err-slot
returns-in_err-slot c =
    stops_at (λ x. (x.0.items, x.1.now)) c.from_residual.result c.in_err-slot.field-0.0 (times (slot_at) c.args.count c.args.bytes.now) c.from_residual.ensures.1
    (value_stops (λ done left. slot_at) c.in_err-slot.field-0.0 c.args.count c.loop.counter c.loop.slots.items c.loop.rest.now (times (slot_at) c.args.count c.args.bytes.now) c.loop-test.true c.in_err-slot.ensures c.loop.invariant)

pub loop-preserved : goal.loop-preserved
loop-preserved c =
    rw c.in_ok-push.ensures.items (value_more (λ done left. slot_at) c.args.count c.loop.counter c.loop.slots.items c.loop.rest.now c.in_ok-slot.slot c.in_ok-slot.after.now (times (slot_at) c.args.count c.args.bytes.now) c.loop-test.true c.in_ok-slot.ensures c.loop.invariant)

pub returns : goal.returns
returns c = values_done (λ done left. slot_at) c.args.count c.loop.counter c.loop.slots.items c.loop.rest.now (times (slot_at) c.args.count c.args.bytes.now) c.loop-test.false c.loop.invariant
