use Rattle.std.proofs.Common.{ap, subst, arith, ◌∙◌}
use Rattle.std.specs.Prelude.{nat_le}
use Rattle.tile_map.specs.declared.span.TileAreas.{TileAreas}
use Rattle.tile_map.specs.Plane.{IsMap, site}
use Rattle.tile_map.proofs.Spans.{on_low}
use Rattle.tile_map.proofs.Interior.{areas_long, areas_read, near_reaches, reach_low}
use Rattle.tile_map.proofs.map.Map.is_near.Goals as goal

pub index-requires : goal.index-requires
index-requires c = omega (arith, c.self.inside.areas.ok.0, areas_long c.args.self.now _ c.self.inside.areas.items c.args.tile c.self.view_is c.self.invariant.0.areas_are (on_low c.args.self.now c.args.tile c.requires.on))

pub distance-requires-clause-columns : goal.distance-requires-clause-columns
distance-requires-clause-columns c =
    let m = c.args.self.now in
    let t = c.args.tile in
    let low = on_low m t c.requires.on in
    let is = ap (λ (a : TileAreas). a.reach) (areas_read m _ c.self.inside.areas.items t c.index.result.now c.self.view_is c.self.invariant.0.areas_are low c.index.ensures) in
    (reach_low m (subst IsMap c.self.view_is c.self.invariant.0.valid) t c.index.result.now.reach low is).0

pub distance-requires-clause-rows : goal.distance-requires-clause-rows
distance-requires-clause-rows c =
    let m = c.args.self.now in
    let t = c.args.tile in
    let low = on_low m t c.requires.on in
    let is = ap (λ (a : TileAreas). a.reach) (areas_read m _ c.self.inside.areas.items t c.index.result.now c.self.view_is c.self.invariant.0.areas_are low c.index.ensures) in
    (reach_low m (subst IsMap c.self.view_is c.self.invariant.0.valid) t c.index.result.now.reach low is).1

pub returns : goal.returns
returns c =
    let m = c.args.self.now in
    let t = c.args.tile in
    let is = ap (λ (a : TileAreas). a.reach) (areas_read m _ c.self.inside.areas.items t c.index.result.now c.self.view_is c.self.invariant.0.areas_are (on_low m t c.requires.on) c.index.ensures) in
    ap (λ d. nat_le d 4) c.distance.ensures ∙ near_reaches m (subst IsMap c.self.view_is c.self.invariant.0.valid) t (site c.args.x c.args.y) c.index.result.now.reach c.requires.on c.requires.live is
