use Rattle.std.proofs.Common.{◌≡◌, ◌++◌, sym, ap, ◌∙◌, arith}
use Rattle.std.specs.Prelude.{flat_map}
use Rattle.std.specs.List.{range_with_len}
use Rattle.tile_map.specs.Plane.{tiles_of, is_on}
use Rattle.tile_map.specs.Neighbours.{near_above, near_from}
use Rattle.tile_map.proofs.Growing.{pairs_more}
use Rattle.tile_map.proofs.edges.pairs.Goals as goal

pub loop-lower-preserved : goal.loop-lower-preserved
loop-lower-preserved c =
    let plane = c.args.plane.now in
    c.in_ok-push_pairs.ensures ∙ ((λ i. c.loop-lower.invariant i ++ near_above plane c.loop-lower.lower) ∙ sym (pairs_more (is_on plane) plane.tx (tiles_of plane) c.loop-lower.lower))

pub returns : goal.returns
returns c =
    let plane = c.args.plane.now in
    let last : c.loop-lower.lower ≡ tiles_of plane = omega arith in
    c.loop-lower.invariant ∙ ap (λ n. flat_map (near_from (is_on plane) plane.tx (tiles_of plane)) (range_with_len 0 n)) last
