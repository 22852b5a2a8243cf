use Rattle.std.proofs.Common.{◌*◌, arith}
use Rattle.cases_order.proofs.Scripts.{tiles_low, few_scripts}
use Rattle.cases_order.proofs.plans.plan.Goals as goal

pub scripted-requires : goal.scripted-requires
scripted-requires c =
    let s = c.args.shape in
    let low = tiles_low s.tx s.ty s.w s.h c.requires.sizes in
    few_scripts (s.w * s.h) c.loop-tile.tile c.loop-tile.scripts.items (omega (arith, low.0, c.loop-tile-test.false)) (omega (arith, low.1, c.loop-tile.auto.tile-end)) c.loop-tile.invariant.count c.loop-tile.invariant.all
