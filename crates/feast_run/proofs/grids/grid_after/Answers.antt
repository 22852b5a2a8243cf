use Rattle.std.proofs.Common.{ℕ, length, subst, sym}
use Rattle.feast_run.proofs.Runs.{known_grid, ready_known, ready_valid}
use Rattle.feast_run.specs.Acting.{acts}
use Rattle.feast_run.specs.Values.{elements_value}
use Rattle.window_sites.specs.Window.{WindowValue}
use Rattle.cell_grid.specs.Known.{BringsNone}
use Rattle.feast_run.proofs.grids.grid_after.Goals as goal

pub replay_world-requires-clause-world : goal.replay_world-requires-clause-world
replay_world-requires-clause-world c = ready_valid c.args.ready.now c.requires.ready

pub returns-clause-named : goal.returns-clause-named
returns-clause-named c =
    let r = c.args.ready.now in
    let names = (elements_value r.elements).names in
    let means = acts c.in_ok-actor.actor in
    let brings = subst (λ (m : WindowValue → ℕ → WindowValue). BringsNone (length names) m) (sym c.in_ok-actor.ensures) c.requires.ready.brings in
    known_grid names r.world.atoms.items means c.replay_world.result (ready_known r c.requires.ready) brings c.replay_world.ensures.known
