use Rattle.report_text.proofs.Firsts.{behind_lf, behind_open}
use Rattle.report_text.proofs.first.behind_line.Goals as goal

pub returns-in-Some-clause-left : goal.returns-in-Some-clause-left
returns-in-Some-clause-left c = behind_lf c.args.bytes.now c.in-Some.field-0-0.now c.in-Some.rest.now c.in-Some.ensures.0 c.in-Some.ensures.1

pub returns-in-None-clause-left : goal.returns-in-None-clause-left
returns-in-None-clause-left c = behind_open c.args.bytes.now c.in-None.ensures
