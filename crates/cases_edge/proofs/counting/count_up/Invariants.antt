use Rattle.std.proofs.Common.{◌≡◌, ◌≤◌, ◌+◌}
use Rattle.edge_lock.specs.EndLists.{IsFree, IsNew}
use Rattle.cases_edge.proofs.counting.count_up.Given as goal

abbrev pub invariant-loop-attempt : goal.invariant-loop-attempt
invariant-loop-attempt g l = record {
  free : IsFree ((g.D.Board.end l.board).lists l.edge);
  new : IsNew l.attempt ((g.D.Board.end l.board).lists l.edge);
  edge : (g.D.Board.end l.board).registers ≡ (g.D.Board.end l.initial.board).registers;
  moved : g.D.Board.moved l.initial.board l.board;
  few : l.got + l.first ≤ l.attempt;
}
