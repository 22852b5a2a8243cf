use Rattle.std.proofs.Common.{sym, ap, ◌∙◌}
use Rattle.tile_map.specs.Plane.{tiles_of}
use Rattle.event_journal.specs.Serial.{course}
use Rattle.cases_order.proofs.Scripts.{can_all}
use Rattle.cases_order.proofs.Ready.{fresh_made}
use Rattle.cases_order.proofs.runs.fresh.Goals as goal

pub tiles-requires-clause-can : goal.tiles-requires-clause-can
tiles-requires-clause-can g c = can_all c.args.map.now c.args.shape.tx c.args.shape.ty c.args.shape.w c.args.shape.h c.in_ok-plan.plan c.requires.map c.in_ok-plan.ensures

pub returns : goal.returns
returns g c =
    let s = course c.args.map.now c.in_ok-plan.plan (g.B.Behave.after c.args.behave) c.in_ok-start.start in
    let lists = c.in_ok-plan.ensures.count ∙ ap tiles_of (sym c.requires.map) in
    (s, fresh_made g.B.Behave.after c.args.map.now s c.in_ok-tiles.tiles.items c.in_ok-start.ensures c.in_ok-plan.ensures.plan_is lists c.in_ok-tiles.ensures.count c.in_ok-tiles.ensures.fresh)
