use Rattle.std.proofs.Common.{◌<◌, ◌*◌, sym, subst}
use Rattle.tile_map.specs.Plane.{MapValue, plane_of, site}
use Rattle.tile_map.proofs.Spans.{plane_test}
use Rattle.tile_map.proofs.PlaneLaws.{owner_owned, owner_low}
use Rattle.tile_map.proofs.plane.Plane.owner.Goals as goal

pub returns-clause-owns : goal.returns-clause-owns
returns-clause-owns c =
    let x = subst (λ (m : MapValue). c.args.x < m.tx * m.w) (sym c.self.view_is) c.requires.x in
    let y = subst (λ (m : MapValue). c.args.y < m.ty * m.h) (sym c.self.view_is) c.requires.y in
    rw (← c.self.view_is) (owner_owned (plane_of c.self.inside.tx c.self.inside.ty c.self.inside.w c.self.inside.h c.self.inside.off.items) c.self.invariant.0 (site c.args.x c.args.y) (plane_test (plane_of c.self.inside.tx c.self.inside.ty c.self.inside.w c.self.inside.h c.self.inside.off.items) c.args.x c.args.y x y))

pub returns-clause-tile : goal.returns-clause-tile
returns-clause-tile c =
    let x = subst (λ (m : MapValue). c.args.x < m.tx * m.w) (sym c.self.view_is) c.requires.x in
    let y = subst (λ (m : MapValue). c.args.y < m.ty * m.h) (sym c.self.view_is) c.requires.y in
    rw (← c.self.view_is) (owner_low (plane_of c.self.inside.tx c.self.inside.ty c.self.inside.w c.self.inside.h c.self.inside.off.items) c.self.invariant.0 (site c.args.x c.args.y) (plane_test (plane_of c.self.inside.tx c.self.inside.ty c.self.inside.w c.self.inside.h c.self.inside.off.items) c.args.x c.args.y x y))
