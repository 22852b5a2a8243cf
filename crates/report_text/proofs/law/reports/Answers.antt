use Rattle.report_text.proofs.ReadForm.{are_reports}
use Rattle.report_text.proofs.law.reports.Goals as goal

pub returns : goal.returns
returns c = are_reports c.args.map.now c.args.plan.now c.tiles-tiles.ensures.valid
