use Rattle.std.proofs.Common.{[], ◌++◌, subst}
use Rattle.feast_base.specs.Loading.{IsCut}
use Rattle.report_text.specs.Report.{grid_text}
use Rattle.report_text.specs.Writing.{IsTurned}
use Rattle.report_text.proofs.Putting.{puts_failed, puts_last}
use Rattle.report_text.proofs.writer.write_grid.Goals as goal

pub returns-in_err-put_grid : goal.returns-in_err-put_grid
returns-in_err-put_grid g c =
    let text = grid_text c.args.names.now c.args.grid.now in
    let a = g.K.Sink.state c.args.sink.now in
    let b = g.K.Sink.state c.put_grid.new.sink in
    let cut : IsCut a b text = subst (λ p. IsCut a b (p ++ text)) c.new-page.ensures c.in_err-put_grid.ensures in
    puts_failed a b text c.from_residual.result c.from_residual.ensures.0 cut

pub returns : goal.returns
returns g c =
    let text = grid_text c.args.names.now c.args.grid.now in
    let a = g.K.Sink.state c.args.sink.now in
    let b = g.K.Sink.state c.put_grid.new.sink in
    let turned : IsTurned a b [] c.put_grid.new.page text = subst (λ p. IsTurned a b p c.put_grid.new.page text) c.new-page.ensures c.in_ok-put_grid.ensures in
    puts_last a b (g.K.Sink.state c.put_last.new.sink) c.put_grid.new.page text c.put_last.result turned c.put_last.ensures
