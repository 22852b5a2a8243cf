use Rattle.std.proofs.Common.{◌≡◌, ◌-◌, ◌∷◌, drop, rules, take}
use Rattle.event_journal.specs.Walks.{rest_of}
use Rattle.report_text.specs.Details.{record_fields_by, rest_text}
use Rattle.report_text.proofs.Putting.{underway_cut, underway_more}
use Rattle.report_text.proofs.WrittenLines.{walk_written}
use Rattle.report_text.proofs.part.put_walk.Goals as goal

pub loop-entry-preserved : goal.loop-entry-preserved
loop-entry-preserved g c =
    let l = c.loop-entry in
    let w = c.write_record-start in
    let first : rest_of l.walk ≡ c.in-Some.entry ∷ rest_of c.next.new.self = search rules in
    let next = walk_written (record_fields_by c.args.detail) (rest_of l.walk) (rest_of c.next.new.self) c.in-Some.entry 82 w.result w.new.line first (search rules) w.ensures.written in
    underway_more _ (g.K.Sink.state l.sink) (g.K.Sink.state c.put_bytes.new.sink) _ l.page c.put_bytes.new.page (rest_text c.args.detail l.walk)
    (take (82 - w.result) (drop w.result w.new.line)) (rest_text c.args.detail c.next.new.self) _
    l.invariant next c.in_ok-put_bytes.ensures

pub returns-in_err-put_bytes : goal.returns-in_err-put_bytes
returns-in_err-put_bytes g c =
    let l = c.loop-entry in
    let w = c.write_record-start in
    let first : rest_of l.walk ≡ c.in-Some.entry ∷ rest_of c.next.new.self = search rules in
    let next = walk_written (record_fields_by c.args.detail) (rest_of l.walk) (rest_of c.next.new.self) c.in-Some.entry 82 w.result w.new.line first (search rules) w.ensures.written in
    underway_cut _ (g.K.Sink.state l.sink) (g.K.Sink.state c.put_bytes.new.sink) _ l.page c.put_bytes.new.page (rest_text c.args.detail l.walk)
    (take (82 - w.result) (drop w.result w.new.line)) (rest_text c.args.detail c.next.new.self) _
    c.from_residual.result c.from_residual.ensures.0 l.invariant next c.in_err-put_bytes.ensures
