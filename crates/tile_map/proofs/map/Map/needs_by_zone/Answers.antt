use Rattle.std.proofs.Common.{◌+◌, ◌*◌, length, get_or, ap, subst, arith, ◌∙◌}
use Rattle.tile_map.specs.declared.span.TileAreas.{TileAreas}
use Rattle.tile_map.specs.Plane.{IsMap, site}
use Rattle.tile_map.proofs.Interior.{areas_long, areas_read}
use Rattle.tile_map.proofs.Zones.{owned_low, owned_in, zone_read, zone_known}
use Rattle.tile_map.proofs.map.Map.needs_by_zone.Goals as goal

pub index-requires : goal.index-requires
index-requires c =
    let low = owned_low c.args.self.now c.args.tile (site c.args.x c.args.y) c.requires.owned in
    omega (arith, c.self.inside.areas.ok.0, areas_long c.args.self.now _ c.self.inside.areas.items c.args.tile c.self.view_is c.self.invariant.0.areas_are low)

pub zone-requires-clause-first : goal.zone-requires-clause-first
zone-requires-clause-first c =
    let m = c.args.self.now in
    let low = owned_low m c.args.tile (site c.args.x c.args.y) c.requires.owned in
    let own = ap (λ (a : TileAreas). a.own) (areas_read m _ c.self.inside.areas.items c.args.tile c.index.result.now c.self.view_is c.self.invariant.0.areas_are low c.index.ensures) in
    (owned_in m c.args.tile (site c.args.x c.args.y) c.index.result.now.own c.requires.owned own).top

pub zone-requires-clause-end : goal.zone-requires-clause-end
zone-requires-clause-end c =
    let m = c.args.self.now in
    let low = owned_low m c.args.tile (site c.args.x c.args.y) c.requires.owned in
    let own = ap (λ (a : TileAreas). a.own) (areas_read m _ c.self.inside.areas.items c.args.tile c.index.result.now c.self.view_is c.self.invariant.0.areas_are low c.index.ensures) in
    (owned_in m c.args.tile (site c.args.x c.args.y) c.index.result.now.own c.requires.owned own).bottom

pub zone-requires-2-clause-first : goal.zone-requires-2-clause-first
zone-requires-2-clause-first c =
    let m = c.args.self.now in
    let low = owned_low m c.args.tile (site c.args.x c.args.y) c.requires.owned in
    let own = ap (λ (a : TileAreas). a.own) (areas_read m _ c.self.inside.areas.items c.args.tile c.index.result.now c.self.view_is c.self.invariant.0.areas_are low c.index.ensures) in
    (owned_in m c.args.tile (site c.args.x c.args.y) c.index.result.now.own c.requires.owned own).left

pub zone-requires-2-clause-end : goal.zone-requires-2-clause-end
zone-requires-2-clause-end c =
    let m = c.args.self.now in
    let low = owned_low m c.args.tile (site c.args.x c.args.y) c.requires.owned in
    let own = ap (λ (a : TileAreas). a.own) (areas_read m _ c.self.inside.areas.items c.args.tile c.index.result.now c.self.view_is c.self.invariant.0.areas_are low c.index.ensures) in
    (owned_in m c.args.tile (site c.args.x c.args.y) c.index.result.now.own c.requires.owned own).right

pub returns-in-Some : goal.returns-in-Some
returns-in-Some c =
    let m = c.args.self.now in
    let t = c.args.tile in
    let low = owned_low m t (site c.args.x c.args.y) c.requires.owned in
    let own = ap (λ (a : TileAreas). a.own) (areas_read m _ c.self.inside.areas.items c.args.tile c.index.result.now c.self.view_is c.self.invariant.0.areas_are low c.index.ensures) in
    let kept = zone_read m c.self.inside.plane c.self.inside.zones.items (t * 289 + (c.zone.result * 17 + c.zone-2.result)) c.in-Some.needs.now c.self.view_is c.self.invariant.1 (omega (arith, c.in-Some.ensures.lookup.3.0, ap length c.deref.ensures.value)) (c.in-Some.ensures.lookup.1 ∙ ap (λ ns. get_or ns (t * 289 + (c.zone.result * 17 + c.zone-2.result)) c.in-Some.needs.now) c.deref.ensures.value) in
    c.copy.ensures ∙ kept ∙ zone_known m (subst IsMap c.self.view_is c.self.invariant.0.valid) t (site c.args.x c.args.y) c.index.result.now.own c.zone.result c.zone-2.result c.requires.owned c.requires.live own c.zone.ensures.value c.zone-2.ensures.value c.zone.ensures.few c.zone-2.ensures.few
