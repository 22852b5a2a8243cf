use Rattle.std.proofs.Common.{ℕ, ◌≡◌, ◌+◌, ◌*◌, ◌/◌, ◌%◌, ◌<◌, true, ap, sym, subst, arith, ◌∙◌}
use Rattle.tile_map.specs.Plane.{MapValue, IsMap, Site, site, site_in, is_owned}
use Rattle.tile_map.specs.declared.span.TileAreas.{TileAreas}
use Rattle.tile_map.proofs.Interior.{areas_long, areas_read}
use Rattle.tile_map.proofs.Numbers.{size_low}
use Rattle.tile_map.proofs.PlaneLaws.{site_place}
use Rattle.tile_map.proofs.map.Map.site_of.Goals as goal

pub index-requires : goal.index-requires
index-requires c = omega (arith, c.self.inside.areas.ok.0, areas_long c.args.self.now _ c.self.inside.areas.items c.args.tile c.self.view_is c.self.invariant.0.areas_are c.requires.tile)

-- the column, and the row, of the site
x_at : (m n : MapValue) (t k first column : ℕ) → n ≡ m → first ≡ t % m.tx * m.w → column ≡ k % n.w → first + column ≡ (site_in m t k).x
x_at m n t k first column same is at = λ i. is i + (at ∙ ap (λ (m : MapValue). k % m.w) same) i

y_at : (m n : MapValue) (t k first row : ℕ) → n ≡ m → first ≡ t / m.tx * m.h → row ≡ k / n.w → first + row ≡ (site_in m t k).y
y_at m n t k first row same is at = λ i. is i + (at ∙ ap (λ (m : MapValue). k / m.w) same) i

pub overflow_add-result : goal.overflow_add-result
overflow_add-result c =
    let m = c.args.self.now in
    let valid = subst IsMap c.self.view_is c.self.invariant.0.valid in
    let is = areas_read m _ c.self.inside.areas.items c.args.tile c.index.result.now c.self.view_is c.self.invariant.0.areas_are c.requires.tile c.index.ensures in
    let x = x_at m c.self.inside.plane c.args.tile c.args.centre _ _ c.self.view_is (ap (λ (a : TileAreas). a.own.columns.first) is) c.within-column.ensures.column in
    omega (arith, x, (site_place m valid c.args.tile c.args.centre c.requires.tile c.requires.centre).x, size_low m.tx m.w valid.sizes.tx_high valid.sizes.w_high)

pub overflow_add-result-2 : goal.overflow_add-result-2
overflow_add-result-2 c =
    let m = c.args.self.now in
    let valid = subst IsMap c.self.view_is c.self.invariant.0.valid in
    let is = areas_read m _ c.self.inside.areas.items c.args.tile c.index.result.now c.self.view_is c.self.invariant.0.areas_are c.requires.tile c.index.ensures in
    let y = y_at m c.self.inside.plane c.args.tile c.args.centre _ _ c.self.view_is (ap (λ (a : TileAreas). a.own.rows.first) is) c.within-column.ensures.row in
    omega (arith, y, (site_place m valid c.args.tile c.args.centre c.requires.tile c.requires.centre).y, size_low m.ty m.h valid.sizes.ty_high valid.sizes.h_high)

pub returns-clause-value : goal.returns-clause-value
returns-clause-value c =
    let m = c.args.self.now in
    let is = areas_read m _ c.self.inside.areas.items c.args.tile c.index.result.now c.self.view_is c.self.invariant.0.areas_are c.requires.tile c.index.ensures in
    let x = x_at m c.self.inside.plane c.args.tile c.args.centre _ _ c.self.view_is (ap (λ (a : TileAreas). a.own.columns.first) is) c.within-column.ensures.column in
    let y = y_at m c.self.inside.plane c.args.tile c.args.centre _ _ c.self.view_is (ap (λ (a : TileAreas). a.own.rows.first) is) c.within-column.ensures.row in
    λ i. site (x i) (y i)

pub returns-clause-owned : goal.returns-clause-owned
returns-clause-owned c =
    let m = c.args.self.now in
    subst (λ (s : Site). is_owned m c.args.tile s ≡ true) (sym (returns-clause-value c)) (site_place m (subst IsMap c.self.view_is c.self.invariant.0.valid) c.args.tile c.args.centre c.requires.tile c.requires.centre).owned

pub returns-clause-x : goal.returns-clause-x
returns-clause-x c =
    let m = c.args.self.now in
    subst (λ (s : Site). s.x < m.tx * m.w) (sym (returns-clause-value c)) (site_place m (subst IsMap c.self.view_is c.self.invariant.0.valid) c.args.tile c.args.centre c.requires.tile c.requires.centre).x

pub returns-clause-y : goal.returns-clause-y
returns-clause-y c =
    let m = c.args.self.now in
    subst (λ (s : Site). s.y < m.ty * m.h) (sym (returns-clause-value c)) (site_place m (subst IsMap c.self.view_is c.self.invariant.0.valid) c.args.tile c.args.centre c.requires.tile c.requires.centre).y
