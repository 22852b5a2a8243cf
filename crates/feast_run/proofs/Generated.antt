-- What the run of a generated world comes to.
use Rattle.std.proofs.Common.{ℕ, ◌≡◌, List, Result, Ok, Err, refl, ap, subst, sym, ◌∙◌}
use Rattle.std.specs.Result.{IfOk}
use Rattle.event_journal.specs.Logs.{abandoned_in, records_in}
use Rattle.feast_base.specs.Outside.{ShelfState}
use Rattle.feast_run.proofs.Machines.{is_run, machine_grid, machine_logs}
use Rattle.feast_run.specs.Elements.{ElementsValue}
use Rattle.feast_run.specs.Generating.{stepped_summary}
use Rattle.feast_run.specs.Stages.{ready_with}
use Rattle.feast_run.specs.Stepped.{IsOutcomeOf, IsSteppedRun}
use Rattle.feast_run.specs.Tellings.{MissesNone, Moves}
use Rattle.feast_run.specs.declared.halt.Halt.{Halt}
use Rattle.feast_run.specs.declared.halt.Halt.TheVariants.{Refused, Missing, NoMemory}
use Rattle.generated_world.specs.Generated.{world_of_number}
use Rattle.generated_world.specs.Summary.{summary}
use Rattle.serial_order.specs.declared.outcome.Outcome.{Outcome}
use Rattle.world_runs.specs.Orders.{IsOrder}
use Rattle.world_text.specs.Named.{WorldValue}

-- its order is drawn
pub order_drawn : (number : ℕ) (w : WorldValue) → w ≡ world_of_number number → IsOrder w.plane w.order
order_drawn number w e = subst (λ (v : WorldValue). IsOrder v.plane v.order) (sym e) tt

pub is_generated_run : (number : ℕ) (w : WorldValue) (es : ElementsValue) (o : Outcome) → w ≡ world_of_number number → IsOutcomeOf (ready_with w es) o → IsSteppedRun (ready_with (world_of_number number) es)
is_generated_run number w es o e h = subst (λ (v : WorldValue). IsSteppedRun (ready_with v es)) e (is_run (ready_with w es) o h)

pub summary_is : (number : ℕ) (w : WorldValue) (es : ElementsValue) (o : Outcome) → w ≡ world_of_number number → IsOutcomeOf (ready_with w es) o →
    summary number o.grid (records_in o.journal) (abandoned_in o.journal) ≡ stepped_summary number (ready_with (world_of_number number) es)
summary_is number w es o e h =
    let r = ready_with w es in
    let of_world : summary number o.grid (records_in o.journal) (abandoned_in o.journal) ≡ stepped_summary number r =
    (λ i. summary number (machine_grid r o h i) (records_in (machine_logs r o h i)) (abandoned_in (machine_logs r o h i))) in
    of_world ∙ ap (λ (v : WorldValue). stepped_summary number (ready_with v es)) e

-- where no load failed and no shelf was used, the shelf is as it was
pub unmoved : {X : Type 0} (s : ShelfState) (r : Result X Halt) → MissesNone r → Moves s s r
unmoved s (Ok x) h = record { failed = refl; later = λ n k. k }
unmoved s (Err (Refused r)) h = record { failed = refl; later = λ n k. k }
unmoved s (Err (Missing word)) h = absurd h
unmoved s (Err NoMemory) h = record { failed = refl; later = λ n k. k }

-- what is known where there is a text
pub known : {X E P : Type 0} (r : Result X E) → P → IfOk r (λ _. P)
known (Ok x) p = p
known (Err e) p = tt

-- a text that is another
pub shown : {X E : Type 0} (r : Result X E) (text : X → List ℕ) (a b : List ℕ) → a ≡ b → IfOk r (λ v. text v ≡ a) → IfOk r (λ v. text v ≡ b)
shown (Ok x) text a b e h = h ∙ e
shown (Err x) text a b e h = tt
