use Rattle.report_text.proofs.InARow.{in_a_row}
use Rattle.report_text.proofs.law.reports_in_a_row.Goals as goal

pub returns : goal.returns
returns c = in_a_row c.args.names.now c.args.map.now c.args.plan.now c.requires.names c.requires.plan
