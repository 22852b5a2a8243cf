use Rattle.std.proofs.Common.{subst}
use Rattle.report_judge.proofs.Differing.{text_compared}
use Rattle.report_judge.specs.Comparing.{Compared, compared_state}
use Rattle.report_text.specs.Report.{grid_text}
use Rattle.report_text.specs.Writing.{PutsAll}
use Rattle.report_judge.proofs.judging.is_grid.Goals as goal

pub returns : goal.returns
returns c =
    let text = grid_text c.args.names.now c.args.grid.now in
    let put = subst (λ (v : Compared). PutsAll (compared_state v) (compared_state c.write_grid.new.sink) text c.write_grid.result) c.new-comparison.ensures c.write_grid.ensures in
    text_compared c.args.part.now text c.write_grid.new.sink c.write_grid.result c.is_whole.result put c.is_whole.ensures.whole c.is_whole.ensures.otherwise
