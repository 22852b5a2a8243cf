use Rattle.std.proofs.Common.{◌∙◌, ap, replicate, []}
use Rattle.tile_threads.proofs.NewEdges.{none_made}
use Rattle.tile_threads.proofs.edges.make_edges.Goals as goal

pub loop-edge-init : goal.loop-edge-init
loop-edge-init c = none_made c.args.map.now c.new-edges.result.items c.in_ok-passes.passes.items c.new-edges.ensures.items (c.in_ok-passes.ensures ∙ ap (λ n. replicate n []) c.tiles.ensures.count)
