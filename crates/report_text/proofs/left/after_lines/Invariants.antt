use Rattle.std.proofs.Common.{◌≤◌, length}
use Rattle.report_text.specs.GridPart.{LeavesLines}
use Rattle.report_text.proofs.left.after_lines.Given as goal

abbrev pub invariant-loop-line : goal.invariant-loop-line
invariant-loop-line l = record {
  left : LeavesLines l.bytes l._line l.left;
  shorter : length l.left ≤ length l.bytes;
}
