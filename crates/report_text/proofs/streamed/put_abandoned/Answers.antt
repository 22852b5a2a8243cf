use Rattle.std.proofs.Common.{◌+◌, ◌-◌, drop, rules, take}
use Rattle.report_text.specs.Details.{abandoned_fields_by, abandoned_text}
use Rattle.report_text.proofs.Putting.{underway_cut, underway_more}
use Rattle.report_text.proofs.WrittenLines.{next_written}
use Rattle.report_text.proofs.streamed.put_abandoned.Goals as goal

pub returns-in_err-put_bytes : goal.returns-in_err-put_bytes
returns-in_err-put_bytes g c =
    let l = c.loop-entry in
    let list = c.args.abandoned.now in
    let w = c.write_abandoned-start in
    let next = next_written (abandoned_fields_by c.args.detail) l.entry-index list _ 97 w.result w.new.line c.loop-entry-test.true (search rules) w.ensures.written in
    underway_cut _ (g.K.Sink.state l.sink) (g.K.Sink.state c.put_bytes.new.sink) _ l.page _ _
    (take (97 - w.result) (drop w.result w.new.line)) (abandoned_text c.args.detail (drop (l.entry-index + 1) list)) _
    c.from_residual.result c.from_residual.ensures.0 l.invariant next c.in_err-put_bytes.ensures

pub loop-entry-preserved : goal.loop-entry-preserved
loop-entry-preserved g c =
    let l = c.loop-entry in
    let list = c.args.abandoned.now in
    let w = c.write_abandoned-start in
    let next = next_written (abandoned_fields_by c.args.detail) l.entry-index list _ 97 w.result w.new.line c.loop-entry-test.true (search rules) w.ensures.written in
    underway_more _ (g.K.Sink.state l.sink) (g.K.Sink.state c.put_bytes.new.sink) _ l.page _ _
    (take (97 - w.result) (drop w.result w.new.line)) (abandoned_text c.args.detail (drop (l.entry-index + 1) list)) _
    l.invariant next c.in_ok-put_bytes.ensures
