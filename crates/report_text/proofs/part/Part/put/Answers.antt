use Rattle.std.proofs.Common.{◌≡◌, ◌++◌, ap, sym, ◌∙◌}
use Rattle.report_text.specs.Details.{rest_text}
use Rattle.report_text.proofs.Putting.{underway_cut, underway_last, underway_more, underway_none}
use Rattle.report_text.proofs.part.Part.put.Goals as goal

pub returns-in_err-put_bytes : goal.returns-in_err-put_bytes
returns-in_err-put_bytes g c =
    let a = g.K.Sink.state c.args.sink.now in
    let printed = c.as_slice.result.now in
    let rest = rest_text c.self.inside.detail c.self.inside.walk in
    let text = c.args.self.now in
    let parts : text ≡ printed ++ rest = sym c.self.view_is ∙ ap (λ z. z ++ rest) (sym c.as_slice.ensures.value) in
    underway_cut a a (g.K.Sink.state c.put_bytes.new.sink) _ _ _ text printed rest text
    c.from_residual.result c.from_residual.ensures.0 (underway_none a c.args.page.now text) parts c.in_err-put_bytes.ensures

pub returns : goal.returns
returns g c =
    let a = g.K.Sink.state c.args.sink.now in
    let b = g.K.Sink.state c.put_bytes.new.sink in
    let printed = c.as_slice.result.now in
    let rest = rest_text c.self.inside.detail c.self.inside.walk in
    let text = c.args.self.now in
    let parts : text ≡ printed ++ rest = sym c.self.view_is ∙ ap (λ z. z ++ rest) (sym c.as_slice.ensures.value) in
    let one = underway_more a a b _ _ c.put_bytes.new.page text printed rest text (underway_none a c.args.page.now text) parts c.in_ok-put_bytes.ensures in
    underway_last a b (g.K.Sink.state c.put_walk.new.sink) _ c.put_bytes.new.page _ rest text c.put_walk.result one c.put_walk.ensures
