use Rattle.edge_lock.proofs.PassPositions.{Looked}
use Rattle.edge_lock.proofs.shared_end.pass_position.Given as goal

abbrev pub invariant-loop-i : goal.invariant-loop-i
invariant-loop-i l = Looked l.passes l.edge l.i
