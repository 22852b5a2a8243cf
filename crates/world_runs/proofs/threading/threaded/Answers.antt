use Rattle.std.proofs.Common.{subst}
use Rattle.std.proofs.lemmas.Result.{IfOk-weaker}
use Rattle.cell_grid.specs.Grid.{GridValue}
use Rattle.event_journal.specs.Serial.{course}
use Rattle.serial_order.specs.Outcomes.{StandsInOneOrder}
use Rattle.world_text.specs.Values.{world_value}
use Rattle.world_runs.proofs.Beginning.{can_run}
use Rattle.world_runs.proofs.threading.threaded.Goals as goal

pub threaded_from-requires-clause-plan : goal.threaded_from-requires-clause-plan
threaded_from-requires-clause-plan g c = λ lives bounds. can_run (world_value c.args.world.now) c.requires.world

pub threaded_from-requires-clause-start : goal.threaded_from-requires-clause-start
threaded_from-requires-clause-start g c = λ lives bounds. c.in_ok-grid.ensures.fits

pub returns : goal.returns
returns g c =
    let w = world_value c.args.world.now in
    IfOk-weaker c.threaded_from.result _ _ (λ o ran meaning one.
    subst (λ (start : GridValue). StandsInOneOrder (course w.plane w.plan meaning start) o) c.in_ok-grid.ensures.grid (ran meaning one)) c.threaded_from.ensures
