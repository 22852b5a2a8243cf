use Rattle.code_file.proofs.Loops.{digit_more, digit_stops, digits_done, stops_at}
use Rattle.code_file.specs.Reading.{number_at}
use Rattle.std.proofs.Common.{arith}
use Rattle.code_file.proofs.numbers.number.Goals as goal

pub returns-in_err-next-clause-gives : goal.returns-in_err-next-clause-gives
returns-in_err-next-clause-gives c =
    stops_at (λ x. (x.0, x.1.now)) c.from_residual.result c.in_err-next.field-0.0 (number_at c.args.width c.args.least c.args.greatest c.args.bytes.now) c.from_residual.ensures.1
    (digit_stops c.in_err-next.field-0.0 c.loop-left.left c.args.least c.args.greatest c.loop-left.value c.loop-left.rest.now (number_at c.args.width c.args.least c.args.greatest c.args.bytes.now) (omega arith) c.in_err-next.ensures.gives c.loop-left.invariant.read)

pub loop-left-preserved : goal.loop-left-preserved
loop-left-preserved c = record {
  read = digit_more c.loop-left.left c.args.least c.args.greatest c.loop-left.value c.loop-left.rest.now c.in_ok-next.next c.in_ok-next.after.now (number_at c.args.width c.args.least c.args.greatest c.args.bytes.now) (omega arith) c.in_ok-next.ensures.gives c.loop-left.invariant.read;
  range = c.in_ok-next.ensures.range;
}

pub returns-clause-gives : goal.returns-clause-gives
returns-clause-gives c = digits_done c.loop-left.left c.args.least c.args.greatest c.loop-left.value c.loop-left.rest.now (number_at c.args.width c.args.least c.args.greatest c.args.bytes.now) (omega arith) c.loop-left.invariant.read
