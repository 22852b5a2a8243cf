use Rattle.std.proofs.Common.{◌*◌, ◌≤◌, ◌∙◌, Bool, List, subst, sym}
use Rattle.std.proofs.lemmas.Result.{IfOk-weaker}
use Rattle.chain_text.specs.Values.{chain_value}
use Rattle.draw_stream.specs.Plans.{tiles_on}
use Rattle.world_runs.specs.Worlds.{CanRun}
use Rattle.chain_run.proofs.Plans.{leg_runs, planned}
use Rattle.chain_run.proofs.leg.LegOf.plan.Goals as goal

pub seeded-requires-clause-few : goal.seeded-requires-clause-few
seeded-requires-clause-few c =
    let off = c.as_slice.ensures.value ∙ c.in_ok-off.ensures in
    subst (λ (marks : List Bool). c.leg_attempts-count.result * tiles_on marks ≤ 1000000) (sym off) (c.leg_attempts-count.ensures.few c.requires.chain.0 c.requires.chain.1)

pub returns-clause-plan : goal.returns-clause-plan
returns-clause-plan c =
    let off = c.as_slice.ensures.value ∙ c.in_ok-off.ensures in
    planned (chain_value c.args.self.chain.now) c.args.self.number c.seeded.result c.leg_seed-seed.ensures c.leg_attempts-count.ensures.value off (c.from-sites.ensures ∙ c.tile_sites.ensures.value) c.seeded.ensures.value

pub returns-clause-runs : goal.returns-clause-runs
returns-clause-runs c =
    let k = c.args.self.number in
    let value = chain_value c.args.self.chain.now in
    IfOk-weaker c.seeded.result _ _ (λ p is. subst (CanRun value.plane) (sym is) (leg_runs c.requires.chain.0 value k c.requires.chain.1)) (returns-clause-plan c)
