use Rattle.std.proofs.Common.{drop}
use Rattle.report_text.specs.Details.{abandoned_text}
use Rattle.report_text.proofs.Putting.{IsUnderway}
use Rattle.report_text.proofs.streamed.put_abandoned.Given as goal

abbrev pub invariant-loop-entry : goal.invariant-loop-entry
invariant-loop-entry g l =
    IsUnderway (g.K.Sink.state l.fn.sink) (g.K.Sink.state l.sink) l.fn.page l.page
    (abandoned_text l.detail (drop l.entry-index l.abandoned))
    (abandoned_text l.detail l.abandoned)
