use Rattle.std.proofs.Common.{ℕ, List, subst}
use Rattle.std.proofs.lemmas.Result.{IfOk-weaker}
use Rattle.cell_grid.specs.Grid.{GridValue}
use Rattle.event_journal.specs.Serial.{course}
use Rattle.plane_grid.proofs.Blanks.{some_tiles}
use Rattle.stepped_world.specs.Ends.{IsOutcome}
use Rattle.tile_map.proofs.Numbers.{tiles_few}
use Rattle.world_text.specs.Values.{world_value}
use Rattle.world_runs.specs.Fresh.{world_course}
use Rattle.world_runs.specs.Start.{start_of}
use Rattle.world_runs.proofs.Beginning.{can_run}
use Rattle.world_runs.proofs.stepping.stepped.Goals as goal

pub order_of-order-requires-clause-tiles : goal.order_of-order-requires-clause-tiles
order_of-order-requires-clause-tiles g c =
    let m = (world_value c.args.world.now).plane in
    (some_tiles m c.requires.world.map, tiles_few m c.requires.world.map)

pub stepped_from-requires-clause-plan : goal.stepped_from-requires-clause-plan
stepped_from-requires-clause-plan g c = can_run (world_value c.args.world.now) c.requires.world

pub stepped_from-requires-clause-start : goal.stepped_from-requires-clause-start
stepped_from-requires-clause-start g c = c.in_ok-grid.ensures.fits

pub returns : goal.returns
returns g c =
    let w = world_value c.args.world.now in
    IfOk-weaker c.stepped_from.result _ _ (λ o ran meaning one.
    subst (λ (xs : List ℕ). IsOutcome (world_course w meaning) xs o) c.order_of-order.ensures.value
    (subst (λ (start : GridValue). IsOutcome (course w.plane w.plan meaning start) c.order_of-order.result o) c.in_ok-grid.ensures.grid (ran meaning one))) c.stepped_from.ensures
