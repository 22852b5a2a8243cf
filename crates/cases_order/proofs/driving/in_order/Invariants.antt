use Rattle.cases_order.specs.Driven.{IsDriven}
use Rattle.cases_order.proofs.driving.in_order.Given as goal

abbrev pub invariant-loop-tile : goal.invariant-loop-tile
invariant-loop-tile g l = IsDriven g.B.Behave.after l.map l.tiles l.board
