use Rattle.std.proofs.Common.{◌≡◌, ◌<◌, ℕ, List, subst, ◌∙◌, arith}
use Rattle.std.proofs.lemmas.Result.{IfOk-weaker}
use Rattle.cell_grid.specs.Grid.{IsGrid}
use Rattle.event_journal.specs.Serial.{course}
use Rattle.tile_map.specs.Plane.{tiles_of}
use Rattle.stepped_world.specs.Ends.{IsOutcome}
use Rattle.plane_grid.proofs.Blanks.{some_tiles}
use Rattle.world_runs.proofs.Beginning.{all_can, all_fresh}
use Rattle.world_runs.proofs.Given.{given_all, holds_along}
use Rattle.world_runs.proofs.stepping.stepped_from.Goals as goal

pub plan_fits-requires : goal.plan_fits-requires
plan_fits-requires g c =
    let some = some_tiles c.args.map.now c.requires.plan.map in
    omega (arith, some, c.requires.plan.lists)

pub fresh_tiles-requires-clause-lists : goal.fresh_tiles-requires-clause-lists
fresh_tiles-requires-clause-lists g c = c.requires.plan.lists

pub fresh_tiles-requires-clause-can : goal.fresh_tiles-requires-clause-can
fresh_tiles-requires-clause-can g c = all_can c.args.map.now c.args.plan.now c.requires.plan c.plan_fits.ensures

pub run_settled-requires-clause-start : goal.run_settled-requires-clause-start
run_settled-requires-clause-start g c =
    let begun = course c.args.map.now c.args.plan.now c.requires.meaning.0 c.args.start in
    (begun, record { tiles_are = all_fresh g.B.Behave.after begun c.args.behaves.items c.in_ok-tiles.tiles.items c.requires.plan c.plan_fits.ensures (subst IsGrid c.start.view_is c.start.invariant.0) c.requires.start c.in_ok-tiles.ensures c.requires.one c.requires.meaning.1; edges = c.in_ok-board.ensures.edges })

pub run_settled-requires-clause-names : goal.run_settled-requires-clause-names
run_settled-requires-clause-names g c = holds_along (λ t. t < tiles_of c.args.map.now) c.args.order c.requires.order

pub returns : goal.returns
returns g c =
    IfOk-weaker c.run_settled.result _ _ (λ o h meaning one.
    let begun = course c.args.map.now c.args.plan.now meaning c.args.start in
    let all : h.0 ≡ c.args.order = given_all c.args.order h.0 h.1 in
    let settled = h.2 begun (record { tiles_are = all_fresh g.B.Behave.after begun c.args.behaves.items c.in_ok-tiles.tiles.items c.requires.plan c.plan_fits.ensures (subst IsGrid c.start.view_is c.start.invariant.0) c.requires.start c.in_ok-tiles.ensures c.requires.one one; edges = c.in_ok-board.ensures.edges }) in
    subst (λ (xs : List ℕ). IsOutcome begun xs o) all settled) c.run_settled.ensures.outcome
