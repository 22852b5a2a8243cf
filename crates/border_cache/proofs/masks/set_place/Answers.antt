use Rattle.std.proofs.Common.{◌<◌, ◌/◌, ◌*◌, ◌^◌, ◌%◌, arith, subst, sym}
use Rattle.std.specs.Prelude.{slice_index_or, slice_set, bit_or}
use Rattle.border_cache.specs.News.{IsPlace, SetsPlace}
use Rattle.border_cache.proofs.Bits.{sets_some, sets_none}
use Rattle.border_cache.proofs.masks.set_place.Goals as goal

pub returns-in-Some : goal.returns-in-Some
returns-in-Some c =
    let k = c.in-Some.place in
    let masks = c.args.masks.now in
    let low : k < 576 = subst (IsPlace 576) c.in-Some.is c.requires.place in
    subst (λ o. SetsPlace o masks (slice_set masks (k / 64) (bit_or (slice_index_or masks (k / 64) 0) (1 * 2 ^ (k % 64) % 2 ^ 64)))) (sym c.in-Some.is) (sets_some masks k (grind (arith, low, c.requires.count)))

pub returns-in_default : goal.returns-in_default
returns-in_default c = sets_none c.args.masks.now c.args.place c.in_default.not-Some
