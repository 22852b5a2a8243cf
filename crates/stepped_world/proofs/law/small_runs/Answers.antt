use Rattle.stepped_world.proofs.Rows.{computed}
use Rattle.stepped_world.proofs.law.small_runs.Goals as goal

pub returns : goal.returns
returns g = computed
