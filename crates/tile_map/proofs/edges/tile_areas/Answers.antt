use Rattle.std.proofs.Common.{◌≡◌, [], ◌∷◌, ◌++◌, map, sym, ap, ◌∙◌, arith}
use Rattle.std.specs.List.{range_with_len}
use Rattle.tile_map.specs.Plane.{tiles_of}
use Rattle.tile_map.specs.Tables.{areas_of}
use Rattle.tile_map.proofs.Growing.{areas_more}
use Rattle.tile_map.proofs.edges.tile_areas.Goals as goal

pub loop-tile-preserved : goal.loop-tile-preserved
loop-tile-preserved c = c.in_ok-push.ensures.items ∙ ((λ i. c.loop-tile.invariant i ++ c.areas.ensures i ∷ []) ∙ sym (areas_more c.args.plane.now c.loop-tile.tile))

pub returns : goal.returns
returns c =
    let plane = c.args.plane.now in
    let last : c.loop-tile.tile ≡ tiles_of plane = omega arith in
    c.loop-tile.invariant ∙ ap (λ n. map (areas_of plane) (range_with_len 0 n)) last
