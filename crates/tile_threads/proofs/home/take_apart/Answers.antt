use Rattle.std.proofs.Common.{ap, ◌∙◌}
use Rattle.tile_core.specs.Values.{TileWith}
use Rattle.tile_threads.proofs.Homing.{home_of}
use Rattle.tile_threads.proofs.home.take_apart.Goals as goal

pub returns-clause-home : goal.returns-clause-home
returns-clause-home g c =
    home_of c.args.map.now c.args.worker.tile.core.number c.into_parts-tile.result.0.core.number c.args.worker.end c.into_parts-tile.result.1 c.give_rest.new.end c.of.result (ap (λ (x : TileWith g.row.B.Denot). x.core.number) c.into_parts-tile.ensures.tile) c.into_parts-tile.ensures.end c.give_rest.ensures.moved c.give_rest.ensures.lists (c.of.ensures ∙ c.into_passes.ensures)
