use Rattle.std.proofs.Common.{◌≡◌, ◌+◌, ◌≤◌, drop, length}
use Rattle.report_text.specs.Report.{shown_from}
use Rattle.report_text.proofs.shown.count.Given as goal

abbrev pub invariant-loop-atom : goal.invariant-loop-atom
invariant-loop-atom l = record {
  rest : l.count + length (shown_from l.grid.width l.atom-index (drop l.atom-index l.grid.atoms)) ≡ length (shown_from l.grid.width 0 l.grid.atoms);
  few : l.count ≤ l.atom-index;
}
