use Rattle.std.proofs.Common.{◌≡◌, ◌/◌, length, arith, ap, sym, ◌∙◌}
use Rattle.tile_map.specs.Plane.{MapValue}
use Rattle.tile_map.specs.Edges.{needs_of}
use Rattle.tile_map.specs.Zones.{zone_needs}
use Rattle.tile_map.proofs.Zones.{zones_more}
use Rattle.tile_map.proofs.map.Map.add_zone.Goals as goal

pub invariant_of-self : goal.invariant_of-self
invariant_of-self c =
    let m = c.args.self.now in
    let count : c.len-zone.result ≡ length c.self.inside.zones.items = omega (arith, c.len-zone.ensures, c.self.inside.zones.ok.0) in
    let needs = c.needs_by_edges-needs.ensures ∙ ap (needs_of m (c.len-zone.result / 289)) c.zone_site-x.ensures.value ∙ ap (zone_needs m) count ∙ ap (λ (m : MapValue). zone_needs m (length c.self.inside.zones.items)) (sym c.self.view_is) in
    (c.self.invariant.0, zones_more c.self.inside.plane c.self.inside.zones.items c.push.new.self.items c.needs_by_edges-needs.result c.self.invariant.1 needs (c.in_ok-push.ensures.items))
