use Rattle.std.proofs.Common.{drop}
use Rattle.event_journal.specs.Logs.{abandoned_in}
use Rattle.report_text.specs.Details.{abandoned_text}
use Rattle.report_text.proofs.Putting.{IsUnderway}
use Rattle.report_text.proofs.streamed.put_logs.Given as goal

abbrev pub invariant-loop-log : goal.invariant-loop-log
invariant-loop-log g l =
    IsUnderway (g.K.Sink.state l.fn.sink) (g.K.Sink.state l.sink) l.fn.page l.page
    (abandoned_text l.detail (abandoned_in (drop l.log-index l.logs)))
    (abandoned_text l.detail (abandoned_in l.logs))
