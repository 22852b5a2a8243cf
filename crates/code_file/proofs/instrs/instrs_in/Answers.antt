use Rattle.code_file.specs.Reading.{times, instr_at}
use Rattle.code_file.proofs.Loops.{stops_at, value_more, value_stops, values_done}
use Rattle.code_file.proofs.instrs.instrs_in.Goals as goal

pub returns-in_err-instr : goal.returns-in_err-instr
returns-in_err-instr c =
    stops_at (λ x. (x.0.items, x.1.now)) c.from_residual.result c.in_err-instr.field-0.0 (times (instr_at c.args.most) c.args.count c.args.bytes.now) c.from_residual.ensures.1
    (value_stops (λ done left. instr_at c.args.most) c.in_err-instr.field-0.0 c.args.count c.loop.counter c.loop.instrs.items c.loop.rest.now (times (instr_at c.args.most) c.args.count c.args.bytes.now) c.loop-test.true c.in_err-instr.ensures c.loop.invariant)

pub loop-preserved : goal.loop-preserved
loop-preserved c =
    rw c.in_ok-push.ensures.items (value_more (λ done left. instr_at c.args.most) c.args.count c.loop.counter c.loop.instrs.items c.loop.rest.now c.in_ok-instr.instr c.in_ok-instr.after.now (times (instr_at c.args.most) c.args.count c.args.bytes.now) c.loop-test.true c.in_ok-instr.ensures c.loop.invariant)

pub returns : goal.returns
returns c = values_done (λ done left. instr_at c.args.most) c.args.count c.loop.counter c.loop.instrs.items c.loop.rest.now (times (instr_at c.args.most) c.args.count c.args.bytes.now) c.loop-test.false c.loop.invariant
