use Rattle.chain_run.proofs.LegWorlds.{leg_is_run, next_leg_is_run}
use Rattle.chain_run.proofs.law.legs_are_runs.Goals as goal

pub returns : goal.returns
returns c = record { grids = leg_is_run; chains = next_leg_is_run }
