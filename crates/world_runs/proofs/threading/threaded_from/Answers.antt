use Rattle.std.proofs.Common.{sym, ap, subst, ◌∙◌, arith}
use Rattle.std.proofs.lemmas.Result.{IfOk-weaker}
use Rattle.cell_grid.specs.Grid.{IsGrid}
use Rattle.event_journal.specs.Serial.{course}
use Rattle.plane_grid.proofs.Blanks.{some_tiles}
use Rattle.world_runs.proofs.Beginning.{all_can, all_fresh}
use Rattle.world_runs.proofs.threading.threaded_from.Goals as goal

pub plan_fits-requires : goal.plan_fits-requires
plan_fits-requires g c =
    let some = some_tiles c.args.map.now c.requires.plan.map in
    omega (arith, some, c.requires.plan.lists)

pub fresh_tiles-requires-clause-lists : goal.fresh_tiles-requires-clause-lists
fresh_tiles-requires-clause-lists g c = c.requires.plan.lists

pub fresh_tiles-requires-clause-can : goal.fresh_tiles-requires-clause-can
fresh_tiles-requires-clause-can g c = all_can c.args.map.now c.args.plan.now c.requires.plan c.plan_fits.ensures

pub run_shared-requires-after_bounds : goal.run_shared-requires-after_bounds
run_shared-requires-after_bounds g c = λ lives bounds.
    let begun = course c.args.map.now c.args.plan.now c.requires.meaning.0 c.args.start in
    (begun, all_fresh g.B.Behave.after begun c.args.behaves.items c.in_ok-tiles.tiles.items c.requires.plan c.plan_fits.ensures (subst IsGrid c.start.view_is c.start.invariant.0) c.requires.start c.in_ok-tiles.ensures c.requires.one c.requires.meaning.1)

pub settle-requires-clause-made : goal.settle-requires-clause-made
settle-requires-clause-made g c =
    let begun = course c.args.map.now c.args.plan.now c.requires.meaning.0 c.args.start in
    (c.in_ok-tiles-2.ensures begun (all_fresh g.B.Behave.after begun c.args.behaves.items c.in_ok-tiles.tiles.items c.requires.plan c.plan_fits.ensures (subst IsGrid c.start.view_is c.start.invariant.0) c.requires.start c.in_ok-tiles.ensures c.requires.one c.requires.meaning.1)).made

pub settle-requires-clause-words : goal.settle-requires-clause-words
settle-requires-clause-words g c =
    let begun = course c.args.map.now c.args.plan.now c.requires.meaning.0 c.args.start in
    (c.in_ok-tiles-2.ensures begun (all_fresh g.B.Behave.after begun c.args.behaves.items c.in_ok-tiles.tiles.items c.requires.plan c.plan_fits.ensures (subst IsGrid c.start.view_is c.start.invariant.0) c.requires.start c.in_ok-tiles.ensures c.requires.one c.requires.meaning.1)).words

pub settle-requires-clause-over : goal.settle-requires-clause-over
settle-requires-clause-over g c =
    let begun = course c.args.map.now c.args.plan.now c.requires.meaning.0 c.args.start in
    (begun, (c.in_ok-tiles-2.ensures begun (all_fresh g.B.Behave.after begun c.args.behaves.items c.in_ok-tiles.tiles.items c.requires.plan c.plan_fits.ensures (subst IsGrid c.start.view_is c.start.invariant.0) c.requires.start c.in_ok-tiles.ensures c.requires.one c.requires.meaning.1)).over)

pub returns : goal.returns
returns g c =
    IfOk-weaker c.settle.result _ _ (λ o settled meaning one.
    let begun = course c.args.map.now c.args.plan.now meaning c.args.start in
    let over = (c.in_ok-tiles-2.ensures begun (all_fresh g.B.Behave.after begun c.args.behaves.items c.in_ok-tiles.tiles.items c.requires.plan c.plan_fits.ensures (subst IsGrid c.start.view_is c.start.invariant.0) c.requires.start c.in_ok-tiles.ensures c.requires.one one)).over in
    (settled begun over).in_order) c.settle.ensures.settled
