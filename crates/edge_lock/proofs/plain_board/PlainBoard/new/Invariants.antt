use Rattle.std.proofs.Common.{◌≡◌, map, take}
use Rattle.edge_lock.specs.PlainBoard.{untouched_edge}
use Rattle.edge_lock.proofs.plain_board.PlainBoard.new.Given as goal

abbrev pub invariant-loop-edge : goal.invariant-loop-edge
invariant-loop-edge g l = l.edges.items ≡ map untouched_edge (take l.edge (g.S.EdgeSizes.sizes l.sizes))
