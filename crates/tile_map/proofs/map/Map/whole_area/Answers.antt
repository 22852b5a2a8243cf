use Rattle.std.proofs.Common.{subst}
use Rattle.tile_map.specs.Plane.{IsMap}
use Rattle.tile_map.proofs.Areas.{shared_area}
use Rattle.tile_map.proofs.Numbers.{table_read}
use Rattle.tile_map.proofs.map.Map.whole_area.Goals as goal

pub returns : goal.returns
returns c =
    let m = c.args.self.now in
    let v = c.index.result.now in
    let valid = subst IsMap c.self.view_is c.self.invariant.0.valid in
    let is = table_read m c.self.inside.plane c.self.inside.shared.items c.args.edge v c.self.view_is c.self.invariant.0.shared c.requires c.index.ensures in
    shared_area m valid c.args.edge v c.whole_area.result c.requires is c.whole_area.ensures
