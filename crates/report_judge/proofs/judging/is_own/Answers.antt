use Rattle.report_judge.proofs.Differing.{told_by_grid}
use Rattle.report_judge.proofs.judging.is_own.Goals as goal

pub returns : goal.returns
returns c = told_by_grid c.args.names.now c.args.grid.now c.args.read.now.entries c.args.read.now.bytes c.grid_part.result.now c.is_grid.result c.grid_part.ensures c.is_grid.ensures
