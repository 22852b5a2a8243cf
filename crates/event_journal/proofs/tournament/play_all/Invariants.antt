use Rattle.std.proofs.Common.{◌≡◌, ◌+◌, drop, length}
use Rattle.event_journal.proofs.Tournaments.{AllLesserFrom}
use Rattle.event_journal.proofs.tournament.play_all.Given as goal

abbrev pub invariant-loop-step : goal.invariant-loop-step
invariant-loop-step l = record {
  size : length l.nodes ≡ l.leaves + l.leaves;
  leaves : drop l.leaves l.nodes ≡ drop l.leaves l.fn.nodes;
  lesser : AllLesserFrom l.leaves l.nodes l.step;
}
