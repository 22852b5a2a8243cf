use Rattle.std.proofs.Common.{ap, length, arith, length-append}
use Rattle.text_lines.proofs.Cuts.{ended_at}
use Rattle.text_lines.proofs.cut.next_ended.Goals as goal

pub returns-in-Some : goal.returns-in-Some
returns-in-Some c =
    let size = ap length c.in-Some.ensures.1 in (
      ended_at c.in-Some.line.now c.in-Some.rest.now c.args.bytes.now c.in-Some.ensures.0 c.in-Some.ensures.1,
      omega (arith, simp length-append at size),
    )
