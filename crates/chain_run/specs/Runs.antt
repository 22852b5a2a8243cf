-- The legs of a run and of a stepped run.
use Rattle.std.specs.Prelude.{ℕ, suc, zero, ◌≡◌, ◌+◌, List, [], ◌∷◌, length}
use Rattle.window_sites.specs.Window.{WindowValue}
use Rattle.cell_grid.specs.Grid.{GridValue}
use Rattle.chain_text.specs.Chain.{ChainValue, IsChain}
use Rattle.chain_text.specs.Legs.{leg_plan, order_seed}
use Rattle.event_journal.specs.Logs.{abandoned_in, records_in}
use Rattle.event_journal.specs.Serial.{IsSerial}
use Rattle.serial_order.specs.declared.outcome.Outcome.{Outcome}
use Rattle.stepped_world.specs.Ends.{IsOutcome, logs_in}
use Rattle.stepped_world.specs.Machine.{Machine, stepped}
use Rattle.tile_map.specs.Plane.{tiles_of}
use Rattle.world_runs.specs.OneTile.{events_of}
use Rattle.world_runs.specs.Orders.{turns_of}
use Rattle.world_text.specs.Named.{drawn}
use Rattle.chain_run.specs.Chains.{first_grid, making}
use Rattle.chain_run.specs.Legs.{AreLegs, Leg, Making, leg_course}

-- what a run left, as a leg
abbrev pub leg_of : Outcome → Leg
leg_of o = record { grid = o.grid; records = records_in o.journal; abandoned = abandoned_in o.journal }

-- the outcome of the run of leg k, if the leg before it left this grid: its events stand in one serial order, and on a plane of one
-- tile each attempt is an event, in its order
pub record IsRunLeg (c : Making) (k : ℕ) (g : GridValue) (o : Outcome) : Type 0 where
  pub serial : IsSerial (leg_course c k g) o.grid (records_in o.journal) (abandoned_in o.journal)
  pub alone : tiles_of c.map ≡ 1 → (records_in o.journal ≡ events_of c.map (c.plan k)) × (abandoned_in o.journal ≡ [])

-- the order in which the tiles of a stepped leg make their steps
abbrev pub leg_order : ChainValue → ℕ → List ℕ
leg_order c k = turns_of c.plane (leg_plan c k) (drawn (order_seed c k))

-- the outcome of the stepped run of leg k, if the leg before it left this grid
abbrev pub IsStepLeg : ChainValue → (WindowValue → ℕ → WindowValue) → ℕ → GridValue → Outcome → Type 0
IsStepLeg c meaning k g o = IsOutcome (leg_course (making c meaning) k g) (leg_order c k) o

-- the stepped machine of leg k
abbrev pub machine_of_leg : ChainValue → (WindowValue → ℕ → WindowValue) → ℕ → GridValue → Machine
machine_of_leg c meaning k g = stepped c.plane meaning ((making c meaning).acts k g) (leg_plan c k) (leg_order c k)

-- what it leaves
abbrev pub leg_left : ChainValue → Machine → Leg
leg_left c s = record { grid = s.grid; records = records_in (logs_in c.plane s); abandoned = abandoned_in (logs_in c.plane s) }

abbrev pub stepped_leg : ChainValue → (WindowValue → ℕ → WindowValue) → ℕ → GridValue → Leg
stepped_leg c meaning k g = leg_left c (machine_of_leg c meaning k g)

-- so many stepped legs with the numbers from k on, each from the grid that the one before it leaves
unfoldable pub stepped_legs_from : ChainValue → (WindowValue → ℕ → WindowValue) → ℕ → GridValue → ℕ → List Leg
stepped_legs_from c meaning k g zero = []
stepped_legs_from c meaning k g (suc n) = stepped_leg c meaning k g ∷ stepped_legs_from c meaning (k + 1) (stepped_leg c meaning k g).grid n

-- the legs of the stepped run of a chain
abbrev pub stepped_legs : ChainValue → (WindowValue → ℕ → WindowValue) → List Leg
stepped_legs c meaning = stepped_legs_from c meaning c.first (first_grid c) c.legs

-- each attempt of each leg with the numbers from k on is an event, in its order
unfoldable pub AreAlone : Making → ℕ → List Leg → Type 0
AreAlone c k [] = Unit {0}
AreAlone c k (l ∷ ls) = ((l.records ≡ events_of c.map (c.plan k)) × (l.abandoned ≡ [])) × AreAlone c (k + 1) ls

-- on a plane of one tile legs that follow one another are the stepped ones, and each of their attempts is an event
abbrev pub AreLoneLegsStepped : Type 0
AreLoneLegsStepped = (names : List (List ℕ)) (c : ChainValue) (meaning : WindowValue → ℕ → WindowValue) → IsChain names c → tiles_of c.plane ≡ 1
    → (k : ℕ) (g : GridValue) (legs : List Leg) → AreLegs (making c meaning) k g legs → (legs ≡ stepped_legs_from c meaning k g (length legs)) × AreAlone (making c meaning) k legs
