use Rattle.std.proofs.Common.{arith, sym, subst, ◌∙◌, Some, None}
use Rattle.tile_map.specs.Plane.{IsMap}
use Rattle.tile_map.proofs.Numbers.{table_read, register_read, number_low}
use Rattle.tile_map.proofs.map.Map.register.Goals as goal

pub returns-in_err-number : goal.returns-in_err-number
returns-in_err-number c =
    let m = c.args.self.now in
    let v = c.index.result.now in
    let is = table_read m c.self.inside.plane c.self.inside.shared.items c.args.edge v c.self.view_is c.self.invariant.0.shared c.requires c.index.ensures in
    c.from_residual.ensures ∙ register_read m (subst IsMap c.self.view_is c.self.invariant.0.valid) c.args.edge c.args.x c.args.y v None c.requires is c.in_err-number.ensures

pub overflow_mul-result : goal.overflow_mul-result
overflow_mul-result c =
    let m = c.args.self.now in
    let v = c.index.result.now in
    let is = table_read m c.self.inside.plane c.self.inside.shared.items c.args.edge v c.self.view_is c.self.invariant.0.shared c.requires c.index.ensures in
    omega (arith, number_low m (subst IsMap c.self.view_is c.self.invariant.0.valid) c.args.edge c.args.x c.args.y c.in_ok-number.number v c.requires is (sym c.in_ok-number.ensures))

pub overflow_add-result : goal.overflow_add-result
overflow_add-result c =
    let m = c.args.self.now in
    let v = c.index.result.now in
    let is = table_read m c.self.inside.plane c.self.inside.shared.items c.args.edge v c.self.view_is c.self.invariant.0.shared c.requires c.index.ensures in
    omega (arith, number_low m (subst IsMap c.self.view_is c.self.invariant.0.valid) c.args.edge c.args.x c.args.y c.in_ok-number.number v c.requires is (sym c.in_ok-number.ensures))

pub returns : goal.returns
returns c =
    let m = c.args.self.now in
    let v = c.index.result.now in
    let is = table_read m c.self.inside.plane c.self.inside.shared.items c.args.edge v c.self.view_is c.self.invariant.0.shared c.requires c.index.ensures in
    register_read m (subst IsMap c.self.view_is c.self.invariant.0.valid) c.args.edge c.args.x c.args.y v (Some c.in_ok-number.number) c.requires is c.in_ok-number.ensures
