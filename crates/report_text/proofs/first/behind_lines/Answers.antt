use Rattle.std.proofs.Common.{arith, ap, sym, ◌∙◌}
use Rattle.report_text.proofs.Firsts.{behind_one, behind_over, none_first}
use Rattle.report_text.specs.First.{behind_line}
use Rattle.report_text.proofs.first.behind_lines.Goals as goal

pub loop-line-init : goal.loop-line-init
loop-line-init c = (none_first c.args.bytes.now, omega arith)

pub loop-line-preserved : goal.loop-line-preserved
loop-line-preserved c =
    let l = c.loop-line in (
      c.behind_line-left.ensures.left ∙ ap behind_line l.invariant.0 ∙ behind_one l._line c.args.bytes.now,
      let one = c.behind_line-left.ensures.shorter in let before = l.invariant.1 in omega (arith, one, before),
    )

pub returns-then-is_empty : goal.returns-then-is_empty
returns-then-is_empty c =
    let l = c.loop-line in
    (behind_over l._line c.args.count c.args.bytes.now l.left.now (omega arith) l.invariant.0 (sym c.is_empty.ensures ∙ c.if-is_empty.true), l.invariant.1)
