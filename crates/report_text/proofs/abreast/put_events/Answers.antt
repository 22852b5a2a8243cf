use Rattle.std.proofs.Common.{[], append-nil, subst, sym}
use Rattle.report_text.specs.Details.{EventsValue}
use Rattle.report_text.specs.Writing.{Streams, heading}
use Rattle.report_text.proofs.Putting.{underway_cut, underway_first, underway_last}
use Rattle.report_text.proofs.abreast.put_events.Goals as goal

pub returns-in_err-put_round : goal.returns-in_err-put_round
returns-in_err-put_round g c =
    let l = c.loop in
    underway_cut _ (g.K.Sink.state l.sink) (g.K.Sink.state c.put_round.new.sink) _ l.page _ l.events.text l.events.text [] _
    c.from_residual.result c.from_residual.ensures.0 l.invariant (sym (append-nil l.events.text)) c.in_err-put_round.ensures

pub loop-preserved : goal.loop-preserved
loop-preserved g c =
    let l = c.loop in
    underway_first _ (g.K.Sink.state l.sink) (g.K.Sink.state c.put_round.new.sink) _ l.page _ l.events.text c.put_round.new.self.text _ l.invariant c.in_ok-put_round.ensures

pub returns : goal.returns
returns g c =
    let l = c.loop in
    let b = g.K.Sink.state l.sink in
    let d = g.K.Sink.state c.put_walk.new.sink in
    let put = subst (λ (z : EventsValue). Streams (heading b l.page) (heading d c.put_walk.new.page) z.text c.put_walk.result) c.events-2.view_is c.put_walk.ensures in
    underway_last _ b d _ l.page _ l.events.text _ c.put_walk.result l.invariant put
