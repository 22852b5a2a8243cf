-- The grids between the legs of a chain.
use Rattle.std.specs.Prelude.{ℕ, ◌≡◌, ◌≤◌, ◌+◌, List, All, length}
use Rattle.window_sites.specs.Window.{WindowValue}
use Rattle.cell_grid.specs.Grid.{GridValue, IsGrid}
use Rattle.cell_grid.specs.Known.{BringsNone}
use Rattle.chain_text.specs.Chain.{ChainValue, IsChain}
use Rattle.event_journal.specs.Logs.{abandoned_in, records_in}
use Rattle.feast_base.specs.declared.limits.TheConstants.{MOST_ATTEMPTS}
use Rattle.plane_grid.specs.PlaneGrids.{IsGridOf}
use Rattle.report_text.specs.Report.{AreNamed}
use Rattle.serial_order.specs.declared.outcome.Outcome.{Outcome}
use Rattle.tile_map.specs.Plane.{tiles_of}

-- a grid of the chain's plane that can be stored, each of whose atoms is empty or has a name
pub record IsBetween (names : List (List ℕ)) (c : ChainValue) (g : GridValue) : Type 0 where
  pub stored : IsGrid g
  pub grid : IsGridOf c.plane g
  pub named : AreNamed names g.atoms

-- what acts for the tiles of a chain: one for each tile, and all mean the same, which brings no atoms but those that have a name
pub record AreActors {B : Type 0} (after : B → WindowValue → ℕ → WindowValue) (tiles : ℕ) (names : List (List ℕ)) (behaves : List B) : Type 0 where
  pub one : length behaves ≡ tiles
  pub meaning : WindowValue → ℕ → WindowValue
  pub same : All (λ b. after b ≡ meaning) behaves
  pub brings : BringsNone (length names) meaning

-- what a leg begins with: a chain, a grid that was left before, and what acts
pub record CanBegin {B : Type 0} (after : B → WindowValue → ℕ → WindowValue) (names : List (List ℕ)) (c : ChainValue) (g : GridValue) (behaves : List B) : Type 0 where
  pub chain : IsChain names c
  pub grid : IsBetween names c g
  pub actors : AreActors after (tiles_of c.plane) names behaves

-- what a leg may leave: a grid that another leg may begin with, and at most 1,000,000 entries
pub record IsLegLeft (names : List (List ℕ)) (c : ChainValue) (o : Outcome) : Type 0 where
  pub between : IsBetween names c o.grid
  pub few : length (records_in o.journal) + length (abandoned_in o.journal) ≤ MOST_ATTEMPTS
