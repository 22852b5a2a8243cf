use Rattle.report_text.specs.Details.{rest_text}
use Rattle.report_text.proofs.Putting.{IsUnderway}
use Rattle.report_text.proofs.part.put_walk.Given as goal

abbrev pub invariant-loop-entry : goal.invariant-loop-entry
invariant-loop-entry g l =
    IsUnderway (g.K.Sink.state l.fn.sink) (g.K.Sink.state l.sink) l.fn.page l.page (rest_text l.detail l.walk) (rest_text l.detail l.fn.walk)
