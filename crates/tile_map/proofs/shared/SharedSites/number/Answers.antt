use Rattle.std.proofs.Common.{arith, sym, ap, ◌∙◌, get_or, None}
use Rattle.std.specs.Option.{option_and_then}
use Rattle.std.proofs.lemmas.List.{get_or_default}
use Rattle.tile_map.specs.Plane.{site}
use Rattle.tile_map.specs.Tables.{number_at}
use Rattle.tile_map.proofs.Numbers.{area_place}
use Rattle.tile_map.proofs.shared.SharedSites.number.Goals as goal

pub index-requires : goal.index-requires
index-requires c =
    let within = (area_place c.self.inside.area c.args.x c.args.y c.in_ok-place.place (site c.args.x c.args.y) (sym c.in_ok-place.ensures.value)).0 in
    omega (arith, within, c.self.inside.numbers.ok.0, c.self.invariant.2)

pub returns : goal.returns
returns c =
    let items = c.self.inside.numbers.items in
    let within = (area_place c.self.inside.area c.args.x c.args.y c.in_ok-place.place (site c.args.x c.args.y) (sym c.in_ok-place.ensures.value)).0 in
    c.index.ensures
    ∙ get_or_default items c.in_ok-place.place c.index.result.now None (omega (arith, within, c.self.invariant.2))
    ∙ ap (option_and_then (λ k. get_or items k None)) c.in_ok-place.ensures.value
    ∙ ap (λ v. number_at v c.args.x c.args.y) c.self.view_is
