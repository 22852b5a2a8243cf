-- The grids that legs of a chain leave are grids between its legs.
use Rattle.std.proofs.Common.{ℕ, ◌≡◌, ◌+◌, List, [], ◌∷◌, length, refl, ◌∙◌}
use Rattle.window_sites.specs.Window.{WindowValue}
use Rattle.cell_grid.specs.Grid.{ArePlanesAlike, GridValue}
use Rattle.cell_grid.specs.Known.{BringsNone}
use Rattle.chain_text.specs.Chain.{ChainValue, IsChain}
use Rattle.chain_text.specs.Legs.{act_seed}
use Rattle.plane_acts.proofs.Steps.{alike-after_act}
use Rattle.plane_acts.specs.Acts.{after_act, words_drawn}
use Rattle.plane_acts.specs.Schedules.{acts, acts_before, after_acts}
use Rattle.plane_acts.specs.declared.act.Act.{Act}
use Rattle.world_runs.specs.Start.{start_grid}
use Rattle.chain_run.proofs.Acted.{acts_between}
use Rattle.chain_run.proofs.First.{first_between}
use Rattle.chain_run.proofs.Left.{replay_between}
use Rattle.chain_run.proofs.ShownAgain.{shown_again}
use Rattle.chain_run.specs.Between.{IsBetween}
use Rattle.chain_run.specs.Chains.{atoms_shown, first_grid, making}
use Rattle.chain_run.specs.Legs.{AreLegs, Leg, grid_after}

-- acts change no size and no live mark
acts_alike : (seed n : ℕ) (list : List Act) (g : GridValue) → ArePlanesAlike g (after_acts seed n list g)
unfolding after_acts
acts_alike seed n [] g = (refl, refl, refl)
acts_alike seed n (a ∷ list) g =
    let one = alike-after_act seed n a g in
    let more = acts_alike seed (n + words_drawn a) list (after_act seed n a g) in
    (more.0 ∙ one.0, more.1 ∙ one.1, more.2 ∙ one.2)

module _ (names : List (List ℕ)) (c : ChainValue) (is : IsChain names c) where
  -- the grid that the acts before a leg make of one between legs is such a grid, too
  pub acted_between : (k : ℕ) (g : GridValue) → IsBetween names c g → IsBetween names c (acts c.schedule k (act_seed c k) g)
  acted_between k g between = acts_between names c k g (acts c.schedule k (act_seed c k) g) refl (acts_alike (act_seed c k) 0 (acts_before c.schedule k) g) is between

  -- and so is the grid that legs leave
  legs_between : (meaning : WindowValue → ℕ → WindowValue) (k : ℕ) (g : GridValue) (legs : List Leg) → BringsNone (length names) meaning → IsBetween names c g → AreLegs (making c meaning) k g legs → IsBetween names c (grid_after g legs)
  unfolding AreLegs grid_after
  legs_between meaning k g [] brings between h = between
  legs_between meaning k g (l ∷ ls) brings between h =
      legs_between meaning (k + 1) l.grid ls brings (replay_between names c meaning (acts c.schedule k (act_seed c k) g) l.grid l.records brings (acted_between k g between) h.0.replayed) h.1

  pub front_between : (meaning : WindowValue → ℕ → WindowValue) (front : List Leg) → BringsNone (length names) meaning → AreLegs (making c meaning) c.first (first_grid c) front → IsBetween names c (grid_after (first_grid c) front)
  front_between meaning front brings h = legs_between meaning c.first (first_grid c) front brings (first_between names c is) h

  -- the atoms that a grid between legs shows make it again
  pub between_again : (g : GridValue) → IsBetween names c g → start_grid c.plane (atoms_shown g) ≡ g
  between_again g between = shown_again names g c.plane is.map between.stored between.grid between.named
