use Rattle.cases_tile.specs.Pairs.{AreTwo}
use Rattle.cases_tile.proofs.pair.Pair.steps.Given as goal

abbrev pub invariant-loop-side : goal.invariant-loop-side
invariant-loop-side l = AreTwo l.self.map l.self.left.core l.self.right.core l.self.board.board
