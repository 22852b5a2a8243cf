use Rattle.chain_run.proofs.Chains.{chain_course}
use Rattle.chain_run.proofs.Laws.{one_course as proved}
use Rattle.chain_run.proofs.law.one_course.Goals as goal

pub returns : goal.returns
returns c = record { legs = proved; chains = chain_course }
