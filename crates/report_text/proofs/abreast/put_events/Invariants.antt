use Rattle.report_text.proofs.Putting.{IsUnderway}
use Rattle.report_text.proofs.abreast.put_events.Given as goal

abbrev pub invariant-loop : goal.invariant-loop
invariant-loop g l = IsUnderway (g.K.Sink.state l.fn.sink) (g.K.Sink.state l.sink) l.fn.page l.page l.events.text l.fn.events.text
