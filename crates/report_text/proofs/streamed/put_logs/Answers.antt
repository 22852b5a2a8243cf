use Rattle.std.proofs.Common.{◌+◌, drop}
use Rattle.event_journal.specs.Logs.{abandoned_in}
use Rattle.report_text.specs.Details.{abandoned_fields_by, abandoned_text}
use Rattle.report_text.proofs.Putting.{underway_cut, underway_more}
use Rattle.report_text.proofs.WrittenLines.{next_log}
use Rattle.report_text.proofs.streamed.put_logs.Goals as goal

pub returns-in_err-put_abandoned : goal.returns-in_err-put_abandoned
returns-in_err-put_abandoned g c =
    let l = c.loop-log in
    let logs = c.args.logs.now in
    let list = c.abandoned.result.now in
    let next = next_log (abandoned_fields_by c.args.detail) l.log-index logs c.log-item.result list c.loop-log-test.true c.log-item.is c.abandoned.ensures in
    underway_cut _ (g.K.Sink.state l.sink) (g.K.Sink.state c.put_abandoned.new.sink) _ l.page _ _
    (abandoned_text c.args.detail list) (abandoned_text c.args.detail (abandoned_in (drop (l.log-index + 1) logs))) _
    c.from_residual.result c.from_residual.ensures.0 l.invariant next c.in_err-put_abandoned.ensures

pub loop-log-preserved : goal.loop-log-preserved
loop-log-preserved g c =
    let l = c.loop-log in
    let logs = c.args.logs.now in
    let list = c.abandoned.result.now in
    let next = next_log (abandoned_fields_by c.args.detail) l.log-index logs c.log-item.result list c.loop-log-test.true c.log-item.is c.abandoned.ensures in
    underway_more _ (g.K.Sink.state l.sink) (g.K.Sink.state c.put_abandoned.new.sink) _ l.page _ _
    (abandoned_text c.args.detail list) (abandoned_text c.args.detail (abandoned_in (drop (l.log-index + 1) logs))) _
    l.invariant next c.in_ok-put_abandoned.ensures
