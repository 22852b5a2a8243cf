-- A leg is a run of its world.
use Rattle.std.proofs.Common.{ℕ, ◌+◌, List, length, refl, ap, sym}
use Rattle.window_sites.specs.Window.{WindowValue}
use Rattle.cell_grid.specs.Grid.{GridValue}
use Rattle.cell_grid.specs.Known.{BringsNone}
use Rattle.chain_text.specs.Chain.{ChainValue, IsChain}
use Rattle.chain_text.specs.Legs.{leg_plan}
use Rattle.event_journal.specs.Serial.{course}
use Rattle.chain_run.proofs.Betweens.{acted_between, between_again, front_between}
use Rattle.chain_run.proofs.Plans.{leg_runs}
use Rattle.chain_run.proofs.ShownAgain.{shown_live}
use Rattle.chain_run.specs.Between.{IsBetween}
use Rattle.chain_run.specs.Chains.{first_grid, making}
use Rattle.chain_run.specs.LegWorlds.{IsRunOfItsWorld}
use Rattle.chain_run.specs.Legs.{AreLegs, Leg, grid_after}

pub leg_is_run : (names : List (List ℕ)) (c : ChainValue) (meaning : WindowValue → ℕ → WindowValue) (k : ℕ) (g : GridValue) → IsChain names c → IsBetween names c g → IsRunOfItsWorld c meaning k g
leg_is_run names c meaning k g is between =
    let start = (making c meaning).acts k g in
    let acted = acted_between names c is k g between in
    let runs = leg_runs names c k is in
    record {
      world = record { map = runs.map; lists = runs.lists; attempts = runs.attempts; atoms = shown_live c.plane start acted.stored acted.grid };
      course = ap (course c.plane (leg_plan c k) meaning) (sym (between_again names c is start acted));
      order = refl;
    }

pub next_leg_is_run : (names : List (List ℕ)) (c : ChainValue) (meaning : WindowValue → ℕ → WindowValue) (front : List Leg) → IsChain names c → BringsNone (length names) meaning → AreLegs (making c meaning) c.first (first_grid c) front
    → IsRunOfItsWorld c meaning (c.first + length front) (grid_after (first_grid c) front)
next_leg_is_run names c meaning front is brings legs = leg_is_run names c meaning (c.first + length front) (grid_after (first_grid c) front) is (front_between names c is meaning front brings legs)
