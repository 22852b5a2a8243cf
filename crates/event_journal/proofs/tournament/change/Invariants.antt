use Rattle.std.proofs.Common.{◌≡◌, ◌+◌, ◌<◌, drop, length, set}
use Rattle.event_journal.proofs.Tournaments.{AllLesserBut}
use Rattle.event_journal.proofs.tournament.change.Given as goal

abbrev pub invariant-loop-node : goal.invariant-loop-node
invariant-loop-node l = record {
  size : length l.nodes ≡ l.leaves + l.leaves;
  inside : l.node < l.leaves;
  leaves : drop l.leaves l.nodes ≡ set (drop l.leaves l.fn.nodes) l.place l.number;
  lesser : AllLesserBut l.leaves l.nodes l.node;
}

abbrev pub decreases-loop-node : goal.decreases-loop-node
decreases-loop-node l = l.node
