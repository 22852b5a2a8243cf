use Rattle.std.proofs.Common.{[], ◌++◌, subst}
use Rattle.feast_base.specs.Loading.{IsCut}
use Rattle.report_text.specs.Short.{counts_report}
use Rattle.report_text.specs.Writing.{IsTurned}
use Rattle.report_text.proofs.Putting.{puts_failed, puts_last}
use Rattle.report_text.proofs.short.write_counts.Goals as goal

pub returns-in_err-put_counts : goal.returns-in_err-put_counts
returns-in_err-put_counts g c =
    let text = counts_report c.args.names.now c.args.grid.now c.args.events c.args.abandoned in
    let a = g.K.Sink.state c.args.sink.now in
    let b = g.K.Sink.state c.put_counts.new.sink in
    let cut : IsCut a b text = subst (λ p. IsCut a b (p ++ text)) c.new-page.ensures c.in_err-put_counts.ensures in
    puts_failed a b text c.from_residual.result c.from_residual.ensures.0 cut

pub returns : goal.returns
returns g c =
    let text = counts_report c.args.names.now c.args.grid.now c.args.events c.args.abandoned in
    let a = g.K.Sink.state c.args.sink.now in
    let b = g.K.Sink.state c.put_counts.new.sink in
    let turned : IsTurned a b [] c.put_counts.new.page text = subst (λ p. IsTurned a b p c.put_counts.new.page text) c.new-page.ensures c.in_ok-put_counts.ensures in
    puts_last a b (g.K.Sink.state c.put_last.new.sink) c.put_counts.new.page text c.put_last.result turned c.put_last.ensures
