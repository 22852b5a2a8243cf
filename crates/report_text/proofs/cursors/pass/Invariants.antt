use Rattle.std.proofs.Common.{◌≡◌, drop}
use Rattle.report_text.proofs.cursors.pass.Given as goal

abbrev pub invariant-loop-i : goal.invariant-loop-i
invariant-loop-i l = l.stream ≡ drop l._i l.fn.stream
