use Rattle.std.proofs.Common.{◌≡◌, ◌+◌, ◌/◌, ◌%◌, ◌<◌, ◌≤◌, Bool, true, false, cond, [], ◌∷◌, ◌++◌, length, refl, sym, ap, ◌∙◌, arith, Some, None}
use Rattle.std.specs.Prelude.{if◌then◌else◌}
use Rattle.std.specs.Int.{from_bool}
use Rattle.std.proofs.lemmas.List.{length-map}
use Rattle.tile_map.specs.Plane.{site}
use Rattle.tile_map.specs.Tables.{sites_in, live_in, site_number}
use Rattle.tile_map.proofs.Numbers.{area_places, area_site, counted_more, counted_low, counted_all}
use Rattle.tile_map.proofs.shared.SharedSites.new.Goals as goal
use Rattle.tile_map.proofs.shared.SharedSites.new.Goals.{then-live, else-live}

byte_is : (b : Bool) → from_bool b ≡ cond b 1 0
byte_is true = refl
byte_is false = refl

byte_low : (b : Bool) → from_bool b ≤ 1
byte_low true = omega arith
byte_low false = omega arith

pub overflow_add-count : goal.overflow_add-count
overflow_add-count c =
    let a = c.args.area in
    let within : c.loop-place.place ≤ length (sites_in a) = omega (arith, c.loop-place-test.true, c.sites-place-end.ensures.value, area_places a) in
    let low = counted_low c.args.plane.now a c.loop-place.numbers.items c.loop-place.count c.loop-place.place c.loop-place.invariant within in
    omega (arith, low, c.loop-place-test.true, c.sites-place-end.ensures.bound, c.from-count.ensures, byte_low c.is_live-live.result)

pub loop-place-preserved : goal.loop-place-preserved
loop-place-preserved c =
    let a = c.args.area in
    let k = c.loop-place.place in
    let b = c.is_live-live.result in
    let w = c.len-width.result in
    let s = site (a.columns.first + k % w) (a.rows.first + k / w) in
    let lt : k < length (sites_in a) = omega (arith, c.loop-place-test.true, c.sites-place-end.ensures.value, area_places a) in
    let at = area_site a k s lt ∙ (λ i. site (a.columns.first + k % (sym c.len-width.ensures i)) (a.rows.first + k / (sym c.len-width.ensures i))) in
    let number : c.if-live.number ≡ (if b then Some c.loop-place.count else None) = elim c.if-live.branch [ then-live w ↦ w.number-is ∙ (λ i. if sym w.if-live.true i then Some c.loop-place.count else None) | else-live w ↦ w.number-is ∙ (λ i. if sym w.if-live.false i then Some c.loop-place.count else None) ] in
    counted_more c.args.plane.now a k s b c.loop-place.numbers.items c.push.new.self.items c.loop-place.count (c.loop-place.count + c.from-count.result) lt at (sym c.is_live-live.ensures) c.loop-place.invariant
    (c.in_ok-push.ensures.items ∙ ap (λ o. c.loop-place.numbers.items ++ o ∷ []) number)
    (ap (λ n. c.loop-place.count + n) (c.from-count.ensures ∙ byte_is b))

pub invariant_of-result : goal.invariant_of-result
invariant_of-result c =
    let a = c.args.area in
    let whole : length (sites_in a) ≡ c.loop-place.place = omega (arith, c.loop-place-test.false, c.loop-place.auto.place-end, c.sites-place-end.ensures.value, area_places a) in
    let p = counted_all c.args.plane.now a c.loop-place.numbers.items c.loop-place.count c.loop-place.place c.loop-place.invariant whole in
    (c.requires.columns, c.requires.rows, ap length p.0 ∙ length-map (sites_in a) (site_number (live_in c.args.plane.now a)))

pub returns : goal.returns
returns c =
    let a = c.args.area in
    let whole : length (sites_in a) ≡ c.loop-place.place = omega (arith, c.loop-place-test.false, c.loop-place.auto.place-end, c.sites-place-end.ensures.value, area_places a) in
    let p = counted_all c.args.plane.now a c.loop-place.numbers.items c.loop-place.count c.loop-place.place c.loop-place.invariant whole in
    λ i. record { area = a; numbers = p.0 i; count = p.1 i }
