use Rattle.std.proofs.Common.{All, ◌≡◌, ◌<◌, ◌*◌, ◌∙◌, ap, sym, subst}
use Rattle.world_text.specs.Values.{order_value, world_value}
use Rattle.world_runs.specs.Orders.{attempts_in, drawn_order, turns_of}
use Rattle.world_runs.proofs.order.order_of.Goals as goal

pub returns-in-Seed-clause-value : goal.returns-in-Seed-clause-value
returns-in-Seed-clause-value c =
    let w = c.args.world.now in
    let drawn = ap (λ o. turns_of (world_value w).plane w.plan (order_value o)) (sym c.in-Seed.is) in
    c.drawn_turns.ensures.value ∙ ap (λ n. drawn_order c.in-Seed.seed n (16 * attempts_in w.plan)) c.tiles-tiles.ensures.count ∙ drawn

pub returns-in-Seed-clause-tiles : goal.returns-in-Seed-clause-tiles
returns-in-Seed-clause-tiles c =
    subst (λ n. All (λ t. t < n) c.drawn_turns.result) c.tiles-tiles.ensures.count c.drawn_turns.ensures.tiles
