use Rattle.std.proofs.Common.{All, ◌≡◌, ◌<◌, ◌*◌, ◌∙◌, ap, arith, sym, subst}
use Rattle.world_runs.specs.Orders.{attempts_in, drawn_order}
use Rattle.world_runs.proofs.Drawing.{drawn_within}
use Rattle.world_runs.proofs.order.drawn_turns.Goals as goal

pub returns-clause-value : goal.returns-clause-value
returns-clause-value c =
    let count : 2 * (8 * c.attempts_of.result) ≡ 16 * attempts_in c.args.plan.now = omega (arith, c.attempts_of.ensures.value) in
    c.drawn.ensures ∙ ap (drawn_order c.args.seed c.args.tiles) count

pub returns-clause-tiles : goal.returns-clause-tiles
returns-clause-tiles c =
    subst (All (λ t. t < c.args.tiles)) (sym c.drawn.ensures) (drawn_within c.args.seed c.args.tiles (2 * (8 * c.attempts_of.result)) c.requires.some)
