use Rattle.std.proofs.Common.{◌≡◌, ◌++◌, ap, subst, sym, ◌∙◌}
use Rattle.event_journal.specs.Merged.{concat}
use Rattle.report_text.specs.Details.{EventsValue, rest_text}
use Rattle.report_text.proofs.Putting.{first_none, first_part}
use Rattle.report_text.proofs.abreast.Events.put_round.Goals as goal

pub returns-then-is_over : goal.returns-then-is_over
returns-then-is_over g c = first_none (g.K.Sink.state c.args.sink.now) c.args.page.now c.args.self.now.text

pub returns : goal.returns
returns g c =
    let detail = c.self.inside.detail in
    let left = rest_text detail c.fill_all.new.walk in
    let part = concat c.print_all.new.parts in
    let given : rest_text detail c.self.inside.walk ≡ part ++ left = c.fill_all.ensures ∙ ap (λ z. concat z ++ left) (sym c.print_all.ensures) in
    let text : c.args.self.now.text ≡ part ++ left = subst (λ (z : EventsValue). z.text ≡ part ++ left) c.self.view_is given in
    first_part (g.K.Sink.state c.args.sink.now) (g.K.Sink.state c.put_all.new.sink) _ _ part left c.args.self.now.text c.put_all.result text c.put_all.ensures
