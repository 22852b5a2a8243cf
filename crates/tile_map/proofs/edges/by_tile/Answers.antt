use Rattle.std.proofs.Common.{◌≡◌, [], ◌∷◌, ◌++◌, map, sym, ap, ◌∙◌, arith}
use Rattle.std.specs.List.{range_with_len}
use Rattle.tile_map.specs.Edges.{edges_among}
use Rattle.tile_map.proofs.Growing.{lists_more}
use Rattle.tile_map.proofs.edges.by_tile.Goals as goal

pub loop-tile-preserved : goal.loop-tile-preserved
loop-tile-preserved c = c.in_ok-push.ensures.items ∙ ((λ i. c.loop-tile.invariant i ++ c.edges_of.ensures i ∷ []) ∙ sym (lists_more c.args.ends.now c.args.tiles c.loop-tile.tile))

pub returns : goal.returns
returns c =
    let last : c.loop-tile.tile ≡ c.args.tiles = omega arith in
    c.loop-tile.invariant ∙ ap (λ n. map (edges_among c.args.ends.now c.args.tiles) (range_with_len 0 n)) last
