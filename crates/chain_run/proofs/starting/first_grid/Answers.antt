use Rattle.std.proofs.Common.{◌≤◌, ◌∙◌, List, ap, arith, fold, length, subst, sym}
use Rattle.std.proofs.lemmas.List.{drop_all}
use Rattle.chain_text.specs.Values.{chain_value}
use Rattle.world_runs.specs.Start.{with_placed}
use Rattle.world_text.specs.declared.world.Placed.{Placed}
use Rattle.chain_run.proofs.First.{first_between}
use Rattle.chain_run.specs.Between.{IsBetween}
use Rattle.chain_run.proofs.starting.first_grid.Goals as goal

pub returns-clause-grid : goal.returns-clause-grid
returns-clause-grid c =
    let ps = c.args.chain.now.atoms.items in
    let i = c.loop-placed.placed-index in
    let past : length ps ≤ i = omega (arith, c.loop-placed-test.false, ap length c.as_slice-placed-items.ensures.value) in
    sym (ap (λ (left : List Placed). fold with_placed c.loop-placed.grid left) (drop_all i ps past)) ∙ c.loop-placed.invariant.rest

pub returns-clause-between : goal.returns-clause-between
returns-clause-between c = subst (IsBetween _ (chain_value c.args.chain.now)) (sym (returns-clause-grid c)) (first_between _ (chain_value c.args.chain.now) c.requires.chain)
