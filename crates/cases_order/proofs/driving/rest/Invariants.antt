use Rattle.cases_order.specs.Driven.{IsDriven}
use Rattle.cases_order.proofs.driving.rest.Given as goal

abbrev pub invariant-loop-n : goal.invariant-loop-n
invariant-loop-n g l = IsDriven g.B.Behave.after l.map l.tiles l.board
