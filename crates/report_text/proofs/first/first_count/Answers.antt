use Rattle.report_text.proofs.Firsts.{no_count}
use Rattle.report_text.proofs.first.first_count.Goals as goal

pub returns-in-None : goal.returns-in-None
returns-in-None c = no_count c.args.word.now c.args.bytes.now c.in-None.ensures
