-- Runs of plans from grids, as legs of a chain.
use Rattle.std.proofs.Common.{ℕ, ◌≡◌, ◌≢◌, ◌*◌, ◌∙◌, List, [], ◌∷◌, All, ap, arith, get_or, length, subst, sym}
use Rattle.std.specs.Prelude.{slice_index_or}
use Rattle.window_sites.specs.Window.{WindowValue}
use Rattle.cell_grid.specs.Grid.{GridValue, IsLive}
use Rattle.cell_grid.specs.Records.{replay}
use Rattle.cell_grid.specs.declared.record.Record.{Record}
use Rattle.chain_text.specs.Chain.{ChainValue}
use Rattle.chain_text.specs.Legs.{act_seed, leg_plan, order_seed}
use Rattle.draw_stream.proofs.Plans.{no_attempt}
use Rattle.draw_stream.specs.Plans.{PlanValue}
use Rattle.event_journal.specs.declared.abandoned.Abandoned.{Abandoned}
use Rattle.event_journal.specs.Logs.{LogValue, abandoned_in, log_of, records_in}
use Rattle.event_journal.specs.Serial.{IsSerial, OwesNothing, course}
use Rattle.journal_check.proofs.Living.{events_live}
use Rattle.journal_check.specs.Entries.{IsPlanOf}
use Rattle.plane_acts.specs.Schedules.{acts}
use Rattle.plane_grid.specs.PlaneGrids.{IsGridOf}
use Rattle.serial_order.specs.Outcomes.{StandsInOneOrder}
use Rattle.serial_order.specs.declared.outcome.Outcome.{Outcome}
use Rattle.stepped_world.specs.Ends.{IsOutcome}
use Rattle.tile_map.specs.Plane.{MapValue, tiles_of}
use Rattle.world_runs.proofs.Alone.{owes_nothing}
use Rattle.world_runs.specs.OneTile.{IsAlone, events_of}
use Rattle.world_runs.specs.Orders.{attempts_in, drawn_order}
use Rattle.world_runs.specs.Worlds.{CanRun}
use Rattle.chain_run.specs.Chains.{making}
use Rattle.chain_run.specs.Legs.{leg_course}
use Rattle.chain_run.specs.Runs.{IsRunLeg, IsStepLeg, leg_order}

-- the attempts of a plan that can be run are those of its tiles
pub plan_of : (m : MapValue) (plan : PlanValue) → CanRun m plan → IsPlanOf m plan
plan_of m plan h = record { lists = h.lists; on = λ t some. (h.attempts t 0 no_attempt some).on; centres = λ t k d lt. (h.attempts t k d lt).centre }

pub is_alone : (m : MapValue) (plan : PlanValue) → CanRun m plan → tiles_of m ≡ 1 → IsAlone m plan
is_alone m plan h one = record { map = h.map; one = one; lists = h.lists ∙ one; centres = λ k d lt. (h.attempts 0 k d lt).centre }

module _ (c : ChainValue) (k : ℕ) (g start : GridValue) (plan : PlanValue) (o : Outcome) (planned : plan ≡ leg_plan c k) (acted : start ≡ acts c.schedule k (act_seed c k) g) where
  pub is_step : (means : WindowValue → ℕ → WindowValue) (order : List ℕ) → order ≡ drawn_order (order_seed c k) (tiles_of c.plane) (16 * attempts_in plan) → IsOutcome (course c.plane plan means start) order o → IsStepLeg c means k g o
  is_step means order drawn ran =
      let turns : order ≡ leg_order c k = drawn ∙ ap (λ (p : PlanValue). drawn_order (order_seed c k) (tiles_of c.plane) (16 * attempts_in p)) planned in
      subst (λ (ts : List ℕ). IsOutcome (leg_course (making c means) k g) ts o) turns
      (subst (λ (p : PlanValue). IsOutcome (course c.plane p means (acts c.schedule k (act_seed c k) g)) order o) planned
      (subst (λ (s : GridValue). IsOutcome (course c.plane plan means s) order o) acted ran))

  serial_leg : (means : WindowValue → ℕ → WindowValue) → IsSerial (course c.plane plan means start) o.grid (records_in o.journal) (abandoned_in o.journal) →
      IsSerial (leg_course (making c means) k g) o.grid (records_in o.journal) (abandoned_in o.journal)
  serial_leg means ran =
      subst (λ (p : PlanValue). IsSerial (course c.plane p means (acts c.schedule k (act_seed c k) g)) o.grid (records_in o.journal) (abandoned_in o.journal)) planned
      (subst (λ (s : GridValue). IsSerial (course c.plane plan means s) o.grid (records_in o.journal) (abandoned_in o.journal)) acted ran)

  pub is_run : (means : WindowValue → ℕ → WindowValue) → tiles_of c.plane ≢ 1 → StandsInOneOrder (course c.plane plan means start) o → IsRunLeg (making c means) k g o
  is_run means several ran = record { serial = serial_leg means ran.serial; alone = λ one. absurd (several one) }

  pub is_lone_run : (means : WindowValue → ℕ → WindowValue) → IsAlone c.plane plan → records_in o.journal ≡ events_of c.plane plan → abandoned_in o.journal ≡ [] → o.grid ≡ replay means start (records_in o.journal) → IsRunLeg (making c means) k g o
  is_lone_run means alone events none replayed =
      let first = subst (λ (rs : List Record). OwesNothing c.plane plan rs []) (sym events) (owes_nothing c.plane plan alone) in
      let owes = subst (λ (gone : List Abandoned). OwesNothing c.plane plan (records_in o.journal) gone) (sym none) first in
      record {
        serial = serial_leg means (record { owes = owes; replayed = replayed });
        alone = λ one. (events ∙ ap (events_of c.plane) planned, none);
      }

-- the events of the one log are those of the one tile
pub lone_events : (logs : List LogValue) (log : LogValue) (events now : List Record) → logs ≡ log_of 0 events [] ∷ [] → log ≡ slice_index_or logs 0 (log_of 0 [] []) → now ≡ log.records → now ≡ events
lone_events logs log events now a b c = c ∙ ap (λ (l : LogValue). l.records) (b ∙ ap (λ ls. slice_index_or ls 0 (log_of 0 [] [])) a)

-- they lie at live sites of a grid of the plane
pub lone_live : (m : MapValue) (plan : PlanValue) (g : GridValue) (rs : List Record) → CanRun m plan → tiles_of m ≡ 1 → IsGridOf m g → rs ≡ events_of m plan → All (λ (r : Record). IsLive g r.x r.y) rs
lone_live m plan g rs can one fits is =
    subst (λ (events : List Record). All (λ (r : Record). IsLive g r.x r.y) events) (sym is) (events_live m can.map plan (plan_of m plan can) (events_of m plan) [] (owes_nothing m plan (is_alone m plan can one)).accounted g fits)

-- what acts for the one tile
pub first_means : {B : Type 0} (after : B → WindowValue → ℕ → WindowValue) (means : WindowValue → ℕ → WindowValue) (behaves : List B) (b : B) → All (λ x. after x ≡ means) behaves → length behaves ≡ 1 → after (get_or behaves 0 b) ≡ means
first_means after means behaves b all one = all 0 b (omega (arith, one))
