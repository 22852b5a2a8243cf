use Rattle.chain_run.proofs.Cuts.{chains_cut_short}
use Rattle.chain_run.proofs.law.cut_reports.Goals as goal

pub returns : goal.returns
returns c = chains_cut_short
