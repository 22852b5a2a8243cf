use Rattle.std.proofs.Common.{◌∙◌, arith, sym}
use Rattle.stepped_world.proofs.Following.{still_step}
use Rattle.stepped_world.proofs.run.step_unless_still.Goals as goal

pub returns-else-not-stands_still : goal.returns-else-not-stands_still
returns-else-not-stands_still g c =
    let few = c.requires.ready.1.count in
    let tile = c.requires.tile in
    record { follows = still_step g.B.Behave.after c.args.map.now c.args.tiles.now c.args.board.now c.args.tile (omega (arith, few, tile)) (sym c.stands_still.ensures ∙ c.if-not-stands_still.false) }
