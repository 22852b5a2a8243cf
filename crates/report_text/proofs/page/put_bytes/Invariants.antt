use Rattle.std.proofs.Common.{◌+◌, length}
use Rattle.report_text.proofs.Putting.{IsUnderway}
use Rattle.report_text.proofs.page.put_bytes.Given as goal

abbrev pub invariant-loop-left : goal.invariant-loop-left
invariant-loop-left g l = IsUnderway (g.K.Sink.state l.fn.sink) (g.K.Sink.state l.sink) l.fn.page l.page l.left l.bytes

abbrev pub decreases-loop-left : goal.decreases-loop-left
decreases-loop-left g l = length l.left + length l.page
