use Rattle.report_text.proofs.Reported.{one_report}
use Rattle.report_text.proofs.law.one_report.Goals as goal

pub returns-clause-one : goal.returns-clause-one
returns-clause-one c = one_report c.args.names.now c.requires.names
