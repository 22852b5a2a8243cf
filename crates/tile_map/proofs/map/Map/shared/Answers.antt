use Rattle.std.proofs.Common.{arith, subst, ◌∙◌}
use Rattle.tile_map.specs.Plane.{IsMap}
use Rattle.tile_map.proofs.Numbers.{table_read, count_read, shared_bounded}
use Rattle.tile_map.proofs.Few.{shared_few}
use Rattle.tile_map.proofs.map.Map.shared.Goals as goal

pub returns-clause-count : goal.returns-clause-count
returns-clause-count c =
    let m = c.args.self.now in
    let v = c.index.result.now in
    let is = table_read m c.self.inside.plane c.self.inside.shared.items c.args.edge v c.self.view_is c.self.invariant.0.shared c.requires c.index.ensures in
    c.count.ensures ∙ count_read m (subst IsMap c.self.view_is c.self.invariant.0.valid) c.args.edge v c.requires is

pub returns-clause-bound : goal.returns-clause-bound
returns-clause-bound c =
    let m = c.args.self.now in
    let v = c.index.result.now in
    let valid = subst IsMap c.self.view_is c.self.invariant.0.valid in
    let is = table_read m c.self.inside.plane c.self.inside.shared.items c.args.edge v c.self.view_is c.self.invariant.0.shared c.requires c.index.ensures in
    omega (arith, c.count.ensures, count_read m valid c.args.edge v c.requires is, shared_bounded m valid c.args.edge c.requires)

pub returns-clause-few : goal.returns-clause-few
returns-clause-few c =
    let m = c.args.self.now in
    let v = c.index.result.now in
    let valid = subst IsMap c.self.view_is c.self.invariant.0.valid in
    let is = table_read m c.self.inside.plane c.self.inside.shared.items c.args.edge v c.self.view_is c.self.invariant.0.shared c.requires c.index.ensures in
    omega (arith, c.count.ensures, count_read m valid c.args.edge v c.requires is, shared_few m valid c.args.edge c.requires)
