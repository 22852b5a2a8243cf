use Rattle.chain_run.proofs.Chains.{chain_cut_and_join, chain_cut_where_shown}
use Rattle.chain_run.proofs.Laws.{cut_and_join as proved}
use Rattle.chain_run.proofs.Texts.{reports_joined}
use Rattle.chain_run.proofs.law.cut_and_join.Goals as goal

pub returns : goal.returns
returns c = record { legs = proved; chains = chain_cut_and_join; shown = chain_cut_where_shown; reports = reports_joined }
