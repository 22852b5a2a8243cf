use Rattle.std.proofs.Common.{◌≡◌, length, sym, ap, ◌∙◌}
use Rattle.tile_map.specs.Tables.{SharedValue, sites_in}
use Rattle.tile_map.proofs.Numbers.{area_places}
use Rattle.tile_map.proofs.shared.SharedSites.whole_area.Goals as goal

pub returns-then-self-sites : goal.returns-then-self-sites
returns-then-self-sites c =
    let area : c.self.inside.area ≡ c.args.self.now.area = ap (λ (v : SharedValue). v.area) c.self.view_is in
    let count : c.self.inside.count ≡ c.args.self.now.count = ap (λ (v : SharedValue). v.count) c.self.view_is in (
      area,
      sym count ∙ (c.if-self-sites.true ∙ (c.sites.ensures.value ∙ (sym (area_places c.self.inside.area) ∙ ap (λ a. length (sites_in a)) area))),
      record { columns = c.self.invariant.0; rows = c.self.invariant.1 },
    )

pub returns-else-self-sites : goal.returns-else-self-sites
returns-else-self-sites c = λ whole.
    let area : c.self.inside.area ≡ c.args.self.now.area = ap (λ (v : SharedValue). v.area) c.self.view_is in
    let count : c.self.inside.count ≡ c.args.self.now.count = ap (λ (v : SharedValue). v.count) c.self.view_is in
    c.if-self-sites.false (count ∙ (whole ∙ (ap (λ a. length (sites_in a)) (sym area) ∙ (area_places c.self.inside.area ∙ sym c.sites.ensures.value))))
