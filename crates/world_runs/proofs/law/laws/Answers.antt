use Rattle.world_runs.proofs.Journals.{journal_live}
use Rattle.world_runs.proofs.Valid.{world_valid}
use Rattle.world_runs.proofs.law.laws.Goals as goal

pub returns : goal.returns
returns c = record { world = world_valid; live = λ w bytes d h. journal_live w.plane w.plan.lists h.attempts bytes d }
