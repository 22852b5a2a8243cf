use Rattle.code_file.specs.Reading.{times, function_at}
use Rattle.code_file.proofs.Loops.{stops_at, value_more, value_stops, values_done}
use Rattle.code_file.proofs.functions.functions_in.Goals as goal

pub returns-in_err-function : goal.returns-in_err-function
returns-in_err-function c =
    stops_at (λ x. (x.0.items, x.1.now)) c.from_residual.result c.in_err-function.field-0.0 (times (function_at) c.args.count c.args.bytes.now) c.from_residual.ensures.1
    (value_stops (λ done left. function_at) c.in_err-function.field-0.0 c.args.count c.loop.counter c.loop.functions.items c.loop.rest.now (times (function_at) c.args.count c.args.bytes.now) c.loop-test.true c.in_err-function.ensures c.loop.invariant)

pub loop-preserved : goal.loop-preserved
loop-preserved c =
    rw c.in_ok-push.ensures.items (value_more (λ done left. function_at) c.args.count c.loop.counter c.loop.functions.items c.loop.rest.now c.in_ok-function.function c.in_ok-function.after.now (times (function_at) c.args.count c.args.bytes.now) c.loop-test.true c.in_ok-function.ensures c.loop.invariant)

pub returns : goal.returns
returns c = values_done (λ done left. function_at) c.args.count c.loop.counter c.loop.functions.items c.loop.rest.now (times (function_at) c.args.count c.args.bytes.now) c.loop-test.false c.loop.invariant
