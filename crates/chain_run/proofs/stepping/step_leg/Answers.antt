use Rattle.std.proofs.Common.{◌*◌, ◌<◌, ◌∙◌, All, arith, subst, sym}
use Rattle.chain_text.specs.Values.{chain_value}
use Rattle.plane_grid.proofs.Blanks.{some_tiles}
use Rattle.tile_map.proofs.Numbers.{tiles_few}
use Rattle.world_runs.specs.Orders.{attempts_in, drawn_order}
use Rattle.chain_run.proofs.Left.{leg_leaves}
use Rattle.chain_run.proofs.Legs.{is_step}
use Rattle.chain_run.proofs.stepping.step_leg.Goals as goal

pub drawn_turns-order-requires-clause-some : goal.drawn_turns-order-requires-clause-some
drawn_turns-order-requires-clause-some g c =
    let some = some_tiles (chain_value c.args.leg.chain.now).plane c.requires.begins.1.chain.map in
    let count = c.tiles.ensures.count in
    omega (arith, some, count)

pub drawn_turns-order-requires-clause-most : goal.drawn_turns-order-requires-clause-most
drawn_turns-order-requires-clause-most g c =
    let few = tiles_few (chain_value c.args.leg.chain.now).plane c.requires.begins.1.chain.map in
    let count = c.tiles.ensures.count in
    omega (arith, few, count)

pub drawn_turns-order-requires-clause-lists : goal.drawn_turns-order-requires-clause-lists
drawn_turns-order-requires-clause-lists g c = c.tiles.ensures.count ∙ sym c.in_ok-plan.ensures.runs.lists

pub stepped_from-requires-clause-plan : goal.stepped_from-requires-clause-plan
stepped_from-requires-clause-plan g c = c.in_ok-plan.ensures.runs

pub stepped_from-requires-clause-start : goal.stepped_from-requires-clause-start
stepped_from-requires-clause-start g c = let b = c.requires.begins in (c.act.ensures.between b.0 b.1.chain b.1.grid).grid

pub stepped_from-requires-clause-one : goal.stepped_from-requires-clause-one
stepped_from-requires-clause-one g c = c.requires.begins.1.actors.one

pub stepped_from-requires-clause-meaning : goal.stepped_from-requires-clause-meaning
stepped_from-requires-clause-meaning g c = let actors = c.requires.begins.1.actors in (actors.meaning, actors.same)

pub stepped_from-requires-clause-order : goal.stepped_from-requires-clause-order
stepped_from-requires-clause-order g c = subst (λ n. All (λ t. t < n) c.drawn_turns-order.result) c.tiles.ensures.count c.drawn_turns-order.ensures.tiles

pub returns-clause-run : goal.returns-clause-run
returns-clause-run g c = λ means same.
    let plan = c.in_ok-plan.plan in
    let drawn = c.drawn_turns-order.ensures.value ∙ (λ i. drawn_order (c.order_seed.ensures i) (c.tiles.ensures.count i) (16 * attempts_in plan)) in
    is_step (chain_value c.args.leg.chain.now) c.args.leg.number c.args.grid c.act.new.grid plan c.in_ok-outcome.outcome c.in_ok-plan.ensures.plan c.act.ensures.grid means c.drawn_turns-order.result drawn (c.in_ok-outcome.ensures means same)

pub returns-clause-left : goal.returns-clause-left
returns-clause-left g c =
    leg_leaves g.B.Behave.after (chain_value c.args.leg.chain.now) c.args.behaves.items c.args.grid c.act.new.grid c.in_ok-outcome.outcome c.act.ensures.between (λ means same. (c.in_ok-outcome.ensures means same).in_order.serial.replayed)
    c.tiles-tiles.ensures.valid
