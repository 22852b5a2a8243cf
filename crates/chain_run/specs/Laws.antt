-- What holds of the legs of any chain.
use Rattle.std.specs.Prelude.{ℕ, ◌≡◌, ◌+◌, List, ◌++◌, length}
use Rattle.cell_grid.specs.Grid.{GridValue}
use Rattle.chain_run.specs.Course.{items_from, played}
use Rattle.chain_run.specs.Legs.{AreLegs, Leg, Making, grid_after}

-- the grid that legs leave is the one to which their course leads
abbrev pub HaveOneCourse : Type 0
HaveOneCourse = (c : Making) (k : ℕ) (g : GridValue) (legs : List Leg) → AreLegs c k g legs → grid_after g legs ≡ played c g (items_from k legs)

-- two lists of legs, of which the second goes on where the first ends
abbrev pub GoOn : Making → ℕ → GridValue → List Leg → List Leg → Type 0
GoOn c k g front back = AreLegs c k g front × AreLegs c (k + length front) (grid_after g front) back

-- legs are a front that the others go on from, and such parts are legs together
pub record IsCut (c : Making) (k : ℕ) (g : GridValue) (front back : List Leg) : Type 0 where
  pub cut : AreLegs c k g (front ++ back) → GoOn c k g front back
  pub join : GoOn c k g front back → AreLegs c k g (front ++ back)

-- legs may be cut between any two of them, and joined again
abbrev pub AreCutAndJoined : Type 0
AreCutAndJoined = (c : Making) (k : ℕ) (g : GridValue) (front back : List Leg) → IsCut c k g front back
