use Rattle.std.proofs.Common.{◌≡◌, ◌-◌, ◌*◌, ◌<◌, ℕ, sym, ap, ◌∙◌, subst, replicate, arith}
use Rattle.tile_map.specs.Plane.{IsMap, tiles_of}
use Rattle.tile_map.specs.Spans.{left_of, right_of, top_of, bottom_of}
use Rattle.border_cache.specs.Copies.{IsFirstCopy, IsFirstRectangle, cache_of, columns_of, rows_of, patch}
use Rattle.border_cache.proofs.Stored.{first_copy, first_made}
use Rattle.border_cache.proofs.cache.Cache.new.Goals as goal

pub invariant_of-result : goal.invariant_of-result
invariant_of-result c =
    let m = c.args.map.now in
    let t = c.args.tile in
    let p = c.in_ok-plane.plane in
    let col = c.columns-left in
    let row = c.rows-top in
    let is : p ≡ m = c.in_ok-plane.ensures in
    let zeros : c.in_ok-stamps.stamps.items ≡ replicate ((col.result.1 - col.result.0) * (row.result.1 - row.result.0)) 0 = c.in_ok-stamps.ensures.items_if_clones_equal (λ y h. h) in
    let r = first_made c.args.start.now (patch col.result.0 row.result.0 (col.result.1 - col.result.0) (row.result.1 - row.result.0)) c.in_ok-stamps.stamps.items c.in_ok-atoms.atoms.items c.new.result c.in_ok-atoms.ensures zeros c.new.ensures in
    let left : col.result.0 ≡ left_of p t = col.ensures.first ∙ ap (λ q. left_of q t) (sym is) in
    let right : col.result.1 ≡ right_of p t = col.ensures.end ∙ ap (λ q. right_of q t) (sym is) in
    let top : row.result.0 ≡ top_of p t = row.ensures.first ∙ ap (λ q. top_of q t) (sym is) in
    let bottom : row.result.1 ≡ bottom_of p t = row.ensures.end ∙ ap (λ q. bottom_of q t) (sym is) in
    let width : col.result.1 - col.result.0 ≡ columns_of p t = λ i. right i - left i in
    let height : row.result.1 - row.result.0 ≡ rows_of p t = λ i. bottom i - top i in
    let inside : t < tiles_of p = subst (λ q. t < tiles_of q) (sym is) c.requires.tile in
    record {
      valid = subst IsMap c.plane-2.view_is c.plane-2.invariant.0;
      inside = inside;
      left_is = left;
      top_is = top;
      width_is = width;
      height_is = height;
      narrow = let few = col.ensures.few in omega (arith, few, width);
      short = let few = row.ensures.few in omega (arith, few, height);
      count = r.count ∙ (λ i. width i * height i);
    }

pub returns : goal.returns
returns c =
    let m = c.args.map.now in
    let t = c.args.tile in
    let g = c.args.start.now in
    let cells = c.new.result in
    let col = c.columns-left in
    let row = c.rows-top in
    let zeros : c.in_ok-stamps.stamps.items ≡ replicate ((col.result.1 - col.result.0) * (row.result.1 - row.result.0)) 0 = c.in_ok-stamps.ensures.items_if_clones_equal (λ y h. h) in
    let first = first_made g (patch col.result.0 row.result.0 (col.result.1 - col.result.0) (row.result.1 - row.result.0)) c.in_ok-stamps.stamps.items c.in_ok-atoms.atoms.items cells c.in_ok-atoms.ensures zeros c.new.ensures in
    let r = subst (λ (x : ℕ × ℕ × ℕ × ℕ). IsFirstRectangle g (patch x.0 x.1 x.2 x.3) cells) (λ i. (col.ensures.first i, row.ensures.first i, col.ensures.end i - col.ensures.first i, row.ensures.end i - row.ensures.first i)) first in
    subst (λ p. IsFirstCopy m t g (cache_of p t cells)) (sym c.in_ok-plane.ensures) (first_copy m t g cells r)
