use Rattle.std.proofs.Common.{arith}
use Rattle.report_text.proofs.GridParts.{next_left, none_left}
use Rattle.report_text.proofs.left.after_lines.Goals as goal

pub loop-line-preserved : goal.loop-line-preserved
loop-line-preserved c =
    let l = c.loop-line in
    let some = c.in-Some.ensures in
    record {
      left = λ ls all is. next_left ls l._line l.left.now c.in-Some.field-0-0.now c.in-Some.rest.now all (l.invariant.left ls all is) some.0;
      shorter = let less = some.1 in let before = l.invariant.shorter in omega (arith, less, before);
    }

pub returns-in-None : goal.returns-in-None
returns-in-None c =
    let l = c.loop-line in
    record {
      left = λ ls all is. none_left ls l._line c.args.count l.left.now (omega arith) (l.invariant.left ls all is) c.in-None.ensures;
      shorter = l.invariant.shorter;
    }
