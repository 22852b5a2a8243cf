use Rattle.tile_threads.specs.Passes.{AreEdgesMade}
use Rattle.tile_threads.proofs.edges.make_edges.Given as goal

abbrev pub invariant-loop-edge : goal.invariant-loop-edge
invariant-loop-edge l = AreEdgesMade l.map l.edge l.edges.items l.passes.items
