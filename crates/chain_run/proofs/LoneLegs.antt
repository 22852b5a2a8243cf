-- On a plane of one tile the legs of a chain are those of its stepped run.
use Rattle.std.proofs.Common.{ℕ, ◌≡◌, ◌+◌, ◌*◌, ◌%◌, ◌<◌, ◌≤◌, List, [], ◌∷◌, All, arith, get_or, length, map, refl, sym, ap, ◌∙◌}
use Rattle.std.specs.List.{range_with_len}
use Rattle.std.proofs.Math.Nat.{mod-lt}
use Rattle.std.proofs.lemmas.List.Elements.{All-map}
use Rattle.window_sites.specs.Window.{WindowValue}
use Rattle.cell_grid.specs.Grid.{GridValue}
use Rattle.cell_grid.specs.Records.{replay}
use Rattle.chain_text.proofs.Counts.{leg_few}
use Rattle.chain_text.specs.Chain.{ChainValue, IsChain}
use Rattle.chain_text.specs.Legs.{leg_attempts, leg_plan, leg_seed, order_seed}
use Rattle.draw_stream.proofs.Plans.{attempts_few, length_seeded_lists, seeded_planned}
use Rattle.draw_stream.specs.Words.{tile_word}
use Rattle.draw_stream.specs.Plans.{attempts}
use Rattle.draw_stream.specs.declared.attempt.Attempt.{Attempt}
use Rattle.event_journal.specs.Logs.{abandoned_by, abandoned_in, log_of, of_tile, records_in}
use Rattle.event_journal.specs.Serial.{IsSerial}
use Rattle.stepped_world.specs.Ends.{logs_in}
use Rattle.stepped_world.specs.Machine.{Machine}
use Rattle.tile_map.specs.Plane.{MapValue, tiles_of}
use Rattle.world_runs.proofs.Alone.{events_in}
use Rattle.world_runs.specs.OneTile.{event_of, events_from, events_of}
use Rattle.world_runs.specs.Orders.{attempts_in, drawn_order}
use Rattle.chain_run.proofs.LoneEntries.{lone_entries}
use Rattle.chain_run.proofs.LoneSteps.{IsLeft, lone_machine}
use Rattle.chain_run.proofs.Plans.{leg_runs}
use Rattle.chain_run.specs.Chains.{AreLegsOf, first_grid, making}
use Rattle.chain_run.specs.Legs.{AreLegs, Leg, leg_course}
use Rattle.chain_run.specs.Runs.{AreAlone, leg_order, machine_of_leg, stepped_leg, stepped_legs, stepped_legs_from}

-- all events of one tile are its own
own_events : (m : MapValue) (i : ℕ) (list : List Attempt) → of_tile 0 (events_from m i list) ≡ events_from m i list
own_events m i [] = refl
own_events m i (a ∷ more) = ap (λ rs. event_of m (i, a) ∷ rs) (own_events m (i + 1) more)

-- an order that is drawn of one tile names no other
drawn_first : (seed tiles count : ℕ) → tiles ≡ 1 → All (λ t. t ≡ 0) (drawn_order seed tiles count)
unfolding drawn_order
drawn_first seed tiles count one = All-map (λ t. t ≡ 0) (λ i. tile_word seed i % tiles) (range_with_len 0 count) (λ k d lt.
    let word = tile_word seed (get_or (range_with_len 0 count) k d) in
    let low : word % tiles < tiles = mod-lt word (omega (arith, one)) in
    omega (arith, low, one))

module _ (names : List (List ℕ)) (c : ChainValue) (meaning : WindowValue → ℕ → WindowValue) (is : IsChain names c) (one : tiles_of c.plane ≡ 1) where
  few : (k : ℕ) → length (attempts (leg_plan c k) 0) ≤ 1000000
  few k =
      let off = c.plane.off in
      let sites = c.plane.w * c.plane.h in
      let marks = is.map.marks in
      let count = length_seeded_lists (leg_seed c k) (leg_attempts c k) off sites in
      attempts_few (leg_plan c k) 0 (seeded_planned (leg_seed c k) (leg_attempts c k) off sites (omega (arith, marks, one)) (omega (arith, marks, one)) (leg_few names c k is)) (omega (arith, marks, one, count))

  -- what the machine of a leg leaves
  abbrev lone_leg : ℕ → GridValue → Leg
  lone_leg k g = record { grid = replay meaning ((making c meaning).acts k g) (events_of c.plane (leg_plan c k)); records = events_of c.plane (leg_plan c k); abandoned = [] }

  one_log : (s : Machine) (g : GridValue) (k : ℕ) → IsLeft s g (events_of c.plane (leg_plan c k)) → logs_in c.plane s ≡ log_of 0 (events_of c.plane (leg_plan c k)) [] ∷ []
  one_log s g k h =
      ap (λ n. map (λ t. log_of t (of_tile t s.records) (abandoned_by t s.abandoned)) (range_with_len 0 n)) one
      ∙ (λ i. log_of 0 (of_tile 0 (h.records i)) (abandoned_by 0 (h.none i)) ∷ [])
      ∙ ap (λ rs. log_of 0 rs [] ∷ []) (own_events c.plane 0 (attempts (leg_plan c k) 0))

  steps_lone : (k : ℕ) (g : GridValue) → stepped_leg c meaning k g ≡ lone_leg k g
  steps_lone k g =
      let plan = leg_plan c k in
      let first = drawn_first (order_seed c k) (tiles_of c.plane) (16 * attempts_in plan) one in
      let left = lone_machine c.plane one meaning ((making c meaning).acts k g) plan (leg_order c k) first in
      let logs = one_log (machine_of_leg c meaning k g) _ k left in
      λ i. record { grid = left.grid i; records = (ap records_in logs ∙ events_in c.plane (attempts plan 0) (few k)) i; abandoned = abandoned_in (logs i) }

  leg_lone : (k : ℕ) (g : GridValue) (l : Leg) → IsSerial (leg_course (making c meaning) k g) l.grid l.records l.abandoned → l ≡ lone_leg k g
  leg_lone k g l serial =
      let entries = lone_entries c.plane one (leg_plan c k) l.records l.abandoned (leg_runs names c k is).lists serial.owes in
      let grid = serial.replayed ∙ ap (replay meaning ((making c meaning).acts k g)) entries.0 in
      λ i. record { grid = grid i; records = entries.0 i; abandoned = entries.1 i }

  pub legs_lone : (k : ℕ) (g : GridValue) (legs : List Leg) → AreLegs (making c meaning) k g legs → (legs ≡ stepped_legs_from c meaning k g (length legs)) × AreAlone (making c meaning) k legs
  unfolding AreLegs AreAlone stepped_legs_from
  legs_lone k g [] h = (refl, tt)
  legs_lone k g (l ∷ ls) h =
      let lone = leg_lone k g l h.0 in
      let same = lone ∙ sym (steps_lone k g) in
      let later = legs_lone (k + 1) l.grid ls h.1 in
      let more = later.0 ∙ ap (λ (x : Leg). stepped_legs_from c meaning (k + 1) x.grid (length ls)) same in
      (λ i. same i ∷ more i, ((ap (λ (x : Leg). x.records) lone, ap (λ (x : Leg). x.abandoned) lone), later.1))

  pub lone_are_stepped : (legs : List Leg) → AreLegsOf c meaning legs → legs ≡ stepped_legs c meaning
  lone_are_stepped legs h = (legs_lone c.first (first_grid c) legs h.follow).0 ∙ ap (stepped_legs_from c meaning c.first (first_grid c)) h.count
