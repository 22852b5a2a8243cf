use Rattle.report_text.proofs.ReadAgain.{read_again}
use Rattle.report_text.proofs.law.reads_again.Goals as goal

pub returns : goal.returns
returns c = read_again c.args.names.now c.args.map.now c.args.plan.now c.requires.names c.requires.plan
