use Rattle.std.proofs.Common.{◌≡◌, subst}
use Rattle.chain_text.specs.Values.{chain_value}
use Rattle.plane_acts.specs.Schedules.{acts}
use Rattle.chain_run.proofs.Acted.{acts_between}
use Rattle.chain_run.proofs.leg.LegOf.act.Goals as goal

pub returns-clause-grid : goal.returns-clause-grid
returns-clause-grid c = subst (λ seed. c.act_before.new.grid ≡ acts (chain_value c.args.self.chain.now).schedule c.args.self.number seed c.args.grid.now) c.act_seed-seed.ensures c.act_before.ensures.grid

pub returns-clause-between : goal.returns-clause-between
returns-clause-between c = λ names is between. acts_between names (chain_value c.args.self.chain.now) c.args.self.number c.args.grid.now c.act_before.new.grid (returns-clause-grid c) c.act_before.ensures.plane is between
