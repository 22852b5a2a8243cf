use Rattle.std.proofs.Common.{◌≡◌}
use Rattle.cases_tile.proofs.counted.CountedBoard.news_bits.Given as goal

abbrev pub invariant-loop-word : goal.invariant-loop-word
invariant-loop-word l = l.self.board ≡ l.fn.self.board
