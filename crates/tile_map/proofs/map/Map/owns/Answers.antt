use Rattle.std.proofs.Common.{◌≡◌, true, ap, sym, subst, arith, lt-ltb, ◌∙◌}
use Rattle.list_laws.proofs.Tests.{together}
use Rattle.tile_map.specs.declared.span.Area.{Area}
use Rattle.tile_map.specs.Spans.{is_within}
use Rattle.tile_map.specs.declared.span.TileAreas.{TileAreas}
use Rattle.tile_map.proofs.Interior.{areas_long, areas_read, own_live}
use Rattle.tile_map.proofs.map.Map.owns.Goals as goal

pub index-requires : goal.index-requires
index-requires c = omega (arith, c.self.inside.areas.ok.0, areas_long c.args.self.now _ c.self.inside.areas.items c.args.tile c.self.view_is c.self.invariant.0.areas_are c.requires.tile)

pub returns-then-is_on-clause-live : goal.returns-then-is_on-clause-live
returns-then-is_on-clause-live c h =
    let m = c.args.self.now in
    let t = c.args.tile in
    let is = ap (λ (a : TileAreas). a.own) (areas_read m _ c.self.inside.areas.items t c.index.result.now c.self.view_is c.self.invariant.0.areas_are c.requires.tile c.index.ensures) in
    own_live m t c.args.x c.args.y c.index.result.now.own (sym c.is_on.ensures ∙ c.if-is_on.true) c.requires.x c.requires.y is (sym c.contains.ensures ∙ h)

pub returns-then-is_on-clause-owned : goal.returns-then-is_on-clause-owned
returns-then-is_on-clause-owned c h =
    let m = c.args.self.now in
    let t = c.args.tile in
    let is = ap (λ (a : TileAreas). a.own) (areas_read m _ c.self.inside.areas.items t c.index.result.now c.self.view_is c.self.invariant.0.areas_are c.requires.tile c.index.ensures) in
    together _ _ (lt-ltb _ _ c.requires.tile) (subst (λ (a : Area). is_within a.columns.first a.columns.end a.rows.first a.rows.end c.args.x c.args.y ≡ true) is (sym c.contains.ensures ∙ h))
