-- The legs of a chain, by what its text says.
use Rattle.std.specs.Prelude.{ℕ, ◌≡◌, ◌+◌, ◌-◌, ◌≤◌, List, ◌++◌, length, map}
use Rattle.window_sites.specs.Window.{WindowValue}
use Rattle.cell_grid.specs.Grid.{GridValue}
use Rattle.cell_grid.specs.Known.{BringsNone}
use Rattle.chain_text.specs.Chain.{ChainValue, IsChain}
use Rattle.chain_text.specs.Legs.{act_seed, leg_plan, placed}
use Rattle.plane_acts.specs.Schedules.{acts}
use Rattle.report_text.specs.Report.{shown_atoms}
use Rattle.world_runs.specs.Start.{start_grid}
use Rattle.world_text.specs.declared.world.Placed.{Placed}
use Rattle.chain_run.specs.Course.{items_from, played}
use Rattle.chain_run.specs.Legs.{AreLegs, Leg, Making, grid_after}

-- what makes the legs of a chain whose elements mean this
abbrev pub making : ChainValue → (WindowValue → ℕ → WindowValue) → Making
making c meaning = record {
  map = c.plane;
  meaning = meaning;
  plan = leg_plan c;
  acts = λ k. acts c.schedule k (act_seed c k);
}

-- the grid before the first leg and its acts: that of the chain's atoms
abbrev pub first_grid : ChainValue → GridValue
first_grid c = start_grid c.plane c.atoms

-- the legs of a chain, as many as it says, from the number that it says on
pub record AreLegsOf (c : ChainValue) (meaning : WindowValue → ℕ → WindowValue) (legs : List Leg) : Type 0 where
  pub count : length legs ≡ c.legs
  pub follow : AreLegs (making c meaning) c.first (first_grid c) legs

-- the grid that the legs of a chain leave is the one to which their course leads from the chain's atoms
abbrev pub ChainsHaveOneCourse : Type 0
ChainsHaveOneCourse = (c : ChainValue) (meaning : WindowValue → ℕ → WindowValue) (legs : List Leg) → AreLegsOf c meaning legs →
    grid_after (first_grid c) legs ≡ played (making c meaning) (first_grid c) (items_from c.first legs)

-- the first n legs of a chain, as a chain
abbrev pub front_of : ChainValue → ℕ → ChainValue
front_of c n = record c { legs = n }

-- the legs of a chain behind the first n, as a chain that begins with these atoms
abbrev pub back_of : ChainValue → ℕ → List Placed → ChainValue
back_of c n atoms = record c { first = c.first + n; legs = c.legs - n; atoms = atoms }

-- the legs of the two parts of a chain, of which the second begins with these atoms
abbrev pub AreLegsOfBoth : ChainValue → (WindowValue → ℕ → WindowValue) → List Leg → List Leg → List Placed → Type 0
AreLegsOfBoth c meaning front back atoms = AreLegsOf (front_of c (length front)) meaning front × AreLegsOf (back_of c (length front) atoms) meaning back

-- legs of a chain are legs of its two parts, and such legs of its parts are together legs of the chain
pub record IsChainCut (c : ChainValue) (meaning : WindowValue → ℕ → WindowValue) (front back : List Leg) (atoms : List Placed) : Type 0 where
  pub cut : AreLegsOf c meaning (front ++ back) → AreLegsOfBoth c meaning front back atoms
  pub join : AreLegsOfBoth c meaning front back atoms → AreLegsOf c meaning (front ++ back)

-- a chain may be cut behind any of its legs, if the second part begins with atoms that make the grid which the legs of the first
-- one leave
abbrev pub AreChainsCutAndJoined : Type 0
AreChainsCutAndJoined = (c : ChainValue) (meaning : WindowValue → ℕ → WindowValue) (front back : List Leg) (atoms : List Placed) → length front ≤ c.legs
    → start_grid c.plane atoms ≡ grid_after (first_grid c) front → IsChainCut c meaning front back atoms

-- the atoms that a grid shows, as those that a chain begins with
abbrev pub atoms_shown : GridValue → List Placed
atoms_shown g = map placed (shown_atoms g)

-- the atoms that the last grid of the first part shows are such ones, if names give the chain and its elements bring no other atoms
abbrev pub AreChainsCutWhereShown : Type 0
AreChainsCutWhereShown = (names : List (List ℕ)) (c : ChainValue) (meaning : WindowValue → ℕ → WindowValue) (front back : List Leg) → IsChain names c
    → BringsNone (length names) meaning → length front ≤ c.legs → IsChainCut c meaning front back (atoms_shown (grid_after (first_grid c) front))
