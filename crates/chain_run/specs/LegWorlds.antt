-- Each leg of a chain is a run of a world: that of its plane, its own plan and order, and the atoms that its acts leave.
use Rattle.std.specs.Prelude.{ℕ, ◌≡◌, ◌+◌, List, length}
use Rattle.window_sites.specs.Window.{WindowValue}
use Rattle.cell_grid.specs.Grid.{GridValue}
use Rattle.cell_grid.specs.Known.{BringsNone}
use Rattle.chain_text.specs.Chain.{ChainValue, IsChain}
use Rattle.chain_text.specs.Legs.{leg_world}
use Rattle.world_runs.specs.Fresh.{world_course}
use Rattle.world_runs.specs.Orders.{order_in}
use Rattle.world_runs.specs.Worlds.{IsWorld}
use Rattle.world_text.specs.Named.{WorldValue}
use Rattle.chain_run.specs.Between.{IsBetween}
use Rattle.chain_run.specs.Chains.{first_grid, making}
use Rattle.chain_run.specs.Legs.{AreLegs, Leg, grid_after, leg_course}
use Rattle.chain_run.specs.Runs.{leg_order}

-- the world of leg k, if the leg before it left this grid: its atoms are those that are there after the acts
abbrev pub world_behind : ChainValue → (WindowValue → ℕ → WindowValue) → ℕ → GridValue → WorldValue
world_behind c meaning k g = leg_world c k ((making c meaning).acts k g)

-- leg k is a run of its world, if the leg before it left this grid: the world can be run, what the leg is a run of is that of the
-- world, and so is the order of its steps, if it is stepped
pub record IsRunOfItsWorld (c : ChainValue) (meaning : WindowValue → ℕ → WindowValue) (k : ℕ) (g : GridValue) : Type 0 where
  pub world : IsWorld (world_behind c meaning k g)
  pub course : leg_course (making c meaning) k g ≡ world_course (world_behind c meaning k g) meaning
  pub order : leg_order c k ≡ order_in (world_behind c meaning k g)

-- behind any grid between the legs of a chain that names give, a leg is a run of its world
abbrev pub AreLegsRuns : Type 0
AreLegsRuns = (names : List (List ℕ)) (c : ChainValue) (meaning : WindowValue → ℕ → WindowValue) (k : ℕ) (g : GridValue) → IsChain names c
    → IsBetween names c g → IsRunOfItsWorld c meaning k g

-- and so is the leg behind the first legs of such a chain, if its elements bring no other atoms
abbrev pub AreNextLegsRuns : Type 0
AreNextLegsRuns = (names : List (List ℕ)) (c : ChainValue) (meaning : WindowValue → ℕ → WindowValue) (front : List Leg) → IsChain names c
    → BringsNone (length names) meaning → AreLegs (making c meaning) c.first (first_grid c) front
    → IsRunOfItsWorld c meaning (c.first + length front) (grid_after (first_grid c) front)
