use Rattle.std.proofs.Common.{◌≤◌, length, subst, arith}
use Rattle.tile_map.proofs.Numbers.{size_low}
use Rattle.border_cache.specs.Borders.{site_of}
use Rattle.border_cache.specs.Windows.{place_in, place_at}
use Rattle.border_cache.proofs.Bits.{masks_by}
use Rattle.border_cache.proofs.Covered.{whole_place}
use Rattle.border_cache.proofs.places.masks_of.Goals as goal

pub masks_at-requires-clause-few : goal.masks_at-requires-clause-few
masks_at-requires-clause-few c = subst (λ ss. length ss ≤ 576) c.in-Some.ensures.0 c.requires.few

pub returns-in-Some-clause-masks : goal.returns-in-Some-clause-masks
returns-in-Some-clause-masks c =
    let m = c.args.map.now in
    let s = site_of c.args.centre in
    masks_by (place_at c.in-Some.area s) (place_in m s c.args.edge) 41 c.masks_at.result (λ n lt. whole_place m c.laws.ensures.plane c.in-Some.area s c.args.edge n c.in-Some.ensures.0) c.masks_at.ensures.masks

pub masks_at-requires-clause-x : goal.masks_at-requires-clause-x
masks_at-requires-clause-x c =
    let m = c.args.map.now in
    let s = c.requires.plane.valid.sizes in
    let wide = size_low m.tx m.w s.tx_high s.w_high in
    omega (arith, c.requires.plane.x, wide)

pub masks_at-requires-clause-y : goal.masks_at-requires-clause-y
masks_at-requires-clause-y c =
    let m = c.args.map.now in
    let s = c.requires.plane.valid.sizes in
    let high = size_low m.ty m.h s.ty_high s.h_high in
    omega (arith, c.requires.plane.y, high)
