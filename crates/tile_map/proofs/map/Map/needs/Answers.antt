use Rattle.std.proofs.Common.{ap, sym, subst, arith, ◌∙◌}
use Rattle.tile_map.specs.Plane.{IsMap, site}
use Rattle.tile_map.specs.declared.span.TileAreas.{TileAreas}
use Rattle.tile_map.proofs.Interior.{areas_long, areas_read, interior_needs}
use Rattle.tile_map.proofs.map.Map.needs.Goals as goal

pub index-requires : goal.index-requires
index-requires c = omega (arith, c.self.inside.areas.ok.0, areas_long c.args.self.now _ c.self.inside.areas.items c.args.tile c.self.view_is c.self.invariant.0.areas_are c.requires.tile)

pub returns-then-contains : goal.returns-then-contains
returns-then-contains c =
    let m = c.args.self.now in
    let is = ap (λ (a : TileAreas). a.interior) (areas_read m _ c.self.inside.areas.items c.args.tile c.index.result.now c.self.view_is c.self.invariant.0.areas_are c.requires.tile c.index.ensures) in
    c.new.ensures ∙ sym (interior_needs m (subst IsMap c.self.view_is c.self.invariant.0.valid) c.args.tile (site c.args.x c.args.y) c.index.result.now.interior c.requires.tile is (sym c.contains.ensures ∙ c.if-contains.true))
