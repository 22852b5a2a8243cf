use Rattle.std.proofs.Common.{ap, subst, arith, ◌∙◌}
use Rattle.tile_map.specs.declared.span.Area.{Area}
use Rattle.tile_map.specs.declared.span.TileAreas.{TileAreas}
use Rattle.tile_map.specs.Plane.{IsMap, site}
use Rattle.tile_map.specs.Zones.{zone_site}
use Rattle.tile_map.proofs.Interior.{areas_long, areas_read}
use Rattle.tile_map.proofs.Zones.{own_ends}
use Rattle.tile_map.proofs.map.Map.zone_site.Goals as goal

pub index-requires : goal.index-requires
index-requires c = omega (arith, c.self.inside.areas.ok.0, areas_long c.args.self.now _ c.self.inside.areas.items c.args.tile c.self.view_is c.self.invariant.0.areas_are c.requires.tile)

pub place_in-x-requires-clause-wide : goal.place_in-x-requires-clause-wide
place_in-x-requires-clause-wide c =
    let m = c.args.self.now in
    let own = ap (λ (a : TileAreas). a.own) (areas_read m _ c.self.inside.areas.items c.args.tile c.index.result.now c.self.view_is c.self.invariant.0.areas_are c.requires.tile c.index.ensures) in
    (own_ends m (subst IsMap c.self.view_is c.self.invariant.0.valid) c.args.tile c.index.result.now.own c.requires.tile own).wide

pub place_in-y-requires-clause-wide : goal.place_in-y-requires-clause-wide
place_in-y-requires-clause-wide c =
    let m = c.args.self.now in
    let own = ap (λ (a : TileAreas). a.own) (areas_read m _ c.self.inside.areas.items c.args.tile c.index.result.now c.self.view_is c.self.invariant.0.areas_are c.requires.tile c.index.ensures) in
    (own_ends m (subst IsMap c.self.view_is c.self.invariant.0.valid) c.args.tile c.index.result.now.own c.requires.tile own).tall

pub returns-clause-value : goal.returns-clause-value
returns-clause-value c =
    let m = c.args.self.now in
    let own = ap (λ (a : TileAreas). a.own) (areas_read m _ c.self.inside.areas.items c.args.tile c.index.result.now c.self.view_is c.self.invariant.0.areas_are c.requires.tile c.index.ensures) in
    (λ i. site (c.place_in-x.ensures.value i) (c.place_in-y.ensures.value i)) ∙ ap (λ (a : Area). zone_site a c.args.zone) own

pub returns-clause-x : goal.returns-clause-x
returns-clause-x c =
    let m = c.args.self.now in
    let own = ap (λ (a : TileAreas). a.own) (areas_read m _ c.self.inside.areas.items c.args.tile c.index.result.now c.self.view_is c.self.invariant.0.areas_are c.requires.tile c.index.ensures) in
    omega (arith, c.place_in-x.ensures.end, (own_ends m (subst IsMap c.self.view_is c.self.invariant.0.valid) c.args.tile c.index.result.now.own c.requires.tile own).right)

pub returns-clause-y : goal.returns-clause-y
returns-clause-y c =
    let m = c.args.self.now in
    let own = ap (λ (a : TileAreas). a.own) (areas_read m _ c.self.inside.areas.items c.args.tile c.index.result.now c.self.view_is c.self.invariant.0.areas_are c.requires.tile c.index.ensures) in
    omega (arith, c.place_in-y.ensures.end, (own_ends m (subst IsMap c.self.view_is c.self.invariant.0.valid) c.args.tile c.index.result.now.own c.requires.tile own).bottom)
