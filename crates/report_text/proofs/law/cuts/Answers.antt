use Rattle.report_text.proofs.Shorter.{cut_short, short_cut_short}
use Rattle.report_text.proofs.law.cuts.Goals as goal

pub returns : goal.returns
returns c = record { whole = cut_short c.args.map.now c.args.plan.now.lists; short = short_cut_short c.args.map.now c.args.plan.now.lists }
