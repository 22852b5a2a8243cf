use Rattle.std.proofs.Common.{All, ap, subst, sym, ◌∙◌}
use Rattle.cell_grid.specs.Grid.{GridValue}
use Rattle.cell_grid.specs.Records.{replay}
use Rattle.cell_grid.specs.Known.{IsKnown}
use Rattle.world_runs.proofs.Placing.{live_in}
use Rattle.world_runs.proofs.KnownAtoms.{replay_known, start_known}
use Rattle.world_runs.proofs.replaying.replay_world.Goals as goal

pub returns-clause-known : goal.returns-clause-known
returns-clause-known g c = λ n placed brings.
    let w = c.args.world.now in
    let m = w.map in
    let first = subst (λ (h : GridValue). All (IsKnown n) h.atoms) (sym c.in_ok-grid.ensures.grid) (start_known n m w.atoms.items placed) in
    subst (λ (h : GridValue). All (IsKnown n) h.atoms) (sym c.replay.ensures.grid) (replay_known n (g.B.Behave.after c.args.behave.now) c.in_ok-grid.grid c.args.records.now brings first)

pub replay-requires : goal.replay-requires
replay-requires g c =
    let w = c.args.world.now in
    λ k d lt. live_in (w.map) c.in_ok-grid.grid _ _ c.in_ok-grid.ensures.fits (c.requires.live k d lt)

pub returns-clause-grid : goal.returns-clause-grid
returns-clause-grid g c = c.replay.ensures.grid ∙ ap (λ (h : GridValue). replay (g.B.Behave.after c.args.behave.now) h c.args.records.now) c.in_ok-grid.ensures.grid
