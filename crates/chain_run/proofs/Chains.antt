-- The parts of a chain.
use Rattle.std.proofs.Common.{ℕ, ◌≡◌, ◌+◌, ◌≤◌, List, ◌++◌, length, length-append, refl, sym, subst, arith}
use Rattle.window_sites.specs.Window.{WindowValue}
use Rattle.cell_grid.specs.Grid.{GridValue}
use Rattle.cell_grid.specs.Known.{BringsNone}
use Rattle.chain_text.specs.Chain.{ChainValue, IsChain}
use Rattle.world_runs.specs.Start.{start_grid}
use Rattle.world_text.specs.declared.world.Placed.{Placed}
use Rattle.chain_run.proofs.Betweens.{between_again, front_between}
use Rattle.chain_run.proofs.Laws.{cut, join, one_course}
use Rattle.chain_run.specs.Chains.{AreLegsOf, AreLegsOfBoth, IsChainCut, atoms_shown, first_grid, making}
use Rattle.chain_run.specs.Course.{items_from, played}
use Rattle.chain_run.specs.Legs.{AreLegs, Leg, grid_after}

pub chain_course : (c : ChainValue) (meaning : WindowValue → ℕ → WindowValue) (legs : List Leg) → AreLegsOf c meaning legs → grid_after (first_grid c) legs ≡ played (making c meaning) (first_grid c) (items_from c.first legs)
chain_course c meaning legs h = one_course (making c meaning) c.first (first_grid c) legs h.follow

module _ (c : ChainValue) (meaning : WindowValue → ℕ → WindowValue) (front back : List Leg) (atoms : List Placed) (few : length front ≤ c.legs) (goes_on : start_grid c.plane atoms ≡ grid_after (first_grid c) front) where
  chain_cut : AreLegsOf c meaning (front ++ back) → AreLegsOfBoth c meaning front back atoms
  chain_cut h =
      let parts = cut (making c meaning) c.first (first_grid c) front back h.follow in (
        record { count = refl; follow = parts.0 },
        record {
          count = omega (arith, few, h.count, length-append front back);
          follow = subst (λ (g : GridValue). AreLegs (making c meaning) (c.first + length front) g back) (sym goes_on) parts.1;
        },
      )

  chain_join : AreLegsOfBoth c meaning front back atoms → AreLegsOf c meaning (front ++ back)
  chain_join h = record {
    count = omega (arith, few, h.1.count, length-append front back);
    follow = join (making c meaning) c.first (first_grid c) front back (h.0.follow, subst (λ (g : GridValue). AreLegs (making c meaning) (c.first + length front) g back) goes_on h.1.follow);
  }

  pub chain_cut_and_join : IsChainCut c meaning front back atoms
  chain_cut_and_join = record { cut = chain_cut; join = chain_join }

-- the second part begins with the atoms that the last grid of the first one shows
pub chain_cut_where_shown : (names : List (List ℕ)) (c : ChainValue) (meaning : WindowValue → ℕ → WindowValue) (front back : List Leg) → IsChain names c → BringsNone (length names) meaning → length front ≤ c.legs
    → IsChainCut c meaning front back (atoms_shown (grid_after (first_grid c) front))
chain_cut_where_shown names c meaning front back is brings few = record {
  cut = λ h. (at (cut (making c meaning) c.first (first_grid c) front back h.follow).0).cut h;
  join = λ h. (at h.0.follow).join h;
}
  where
    at : AreLegs (making c meaning) c.first (first_grid c) front → IsChainCut c meaning front back (atoms_shown (grid_after (first_grid c) front))
    at legs =
        let left = grid_after (first_grid c) front in
        chain_cut_and_join c meaning front back (atoms_shown left) few (between_again names c is left (front_between names c is meaning front brings legs))
