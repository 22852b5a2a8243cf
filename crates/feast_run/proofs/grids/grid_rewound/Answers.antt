use Rattle.std.proofs.Common.{ℕ, ◌≡◌, List, Result, Ok, Err, length, subst, sym}
use Rattle.std.specs.Prelude.{IfOk, take}
use Rattle.cell_grid.specs.Grid.{GridValue}
use Rattle.cell_grid.specs.Known.{BringsNone}
use Rattle.cell_grid.specs.Records.{replay}
use Rattle.feast_run.proofs.Judged.{replay_named}
use Rattle.feast_run.proofs.Runs.{ready_valid}
use Rattle.feast_run.specs.Acting.{acts}
use Rattle.feast_run.specs.Values.{elements_value}
use Rattle.report_text.specs.Report.{AreNamed}
use Rattle.window_sites.specs.Window.{WindowValue}
use Rattle.world_runs.proofs.Placing.{live_in}
use Rattle.world_text.specs.Values.{world_value}
use Rattle.feast_run.proofs.grids.grid_rewound.Goals as goal

-- a grid whose atoms have names, if there is memory for it
left_named : {E : Type 0} (names : List (List ℕ)) (v : GridValue) (r : Result GridValue E) → AreNamed names v.atoms → IfOk r (λ (g : GridValue). g ≡ v) → IfOk r (λ (g : GridValue). AreNamed names g.atoms)
left_named names v (Ok g) named is = subst (λ (h : GridValue). AreNamed names h.atoms) (sym is) named
left_named names v (Err e) named is = tt

pub start-requires : goal.start-requires
start-requires c = ready_valid c.args.ready.now c.requires.ready

pub rewind-requires-clause-live : goal.rewind-requires-clause-live
rewind-requires-clause-live c = λ k d lt. live_in (world_value c.args.ready.now.world).plane c.in_ok-first.first _ _ c.in_ok-first.ensures.fits (c.requires.live k d lt)

pub returns-clause-grid : goal.returns-clause-grid
returns-clause-grid c =
    let rs = take c.args.left c.args.records.now in
    subst (λ (v : GridValue). IfOk c.rewind.result (λ (g : GridValue). g ≡ v)) (λ i. replay (c.in_ok-actor.ensures i) (c.in_ok-first.ensures.grid i) rs) c.rewind.ensures

pub returns-clause-named : goal.returns-clause-named
returns-clause-named c =
    let w = world_value c.args.ready.now.world in
    let names = (elements_value c.args.ready.now.elements).names in
    let means = acts c.in_ok-actor.actor in
    let brings = subst (λ (m : WindowValue → ℕ → WindowValue). BringsNone (length names) m) (sym c.in_ok-actor.ensures) c.requires.ready.brings in
    let rs = take c.args.left c.args.records.now in
    let named = replay_named names w means c.in_ok-first.first rs c.requires.ready.named brings c.in_ok-first.ensures.grid in
    left_named names (replay means c.in_ok-first.first rs) c.rewind.result named c.rewind.ensures
