use Rattle.report_text.specs.First.{IsBehind}
use Rattle.report_text.proofs.first.behind_lines.Given as goal

abbrev pub invariant-loop-line : goal.invariant-loop-line
invariant-loop-line l = IsBehind l._line l.bytes l.left
