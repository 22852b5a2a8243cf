use Rattle.std.proofs.Common.{◌≡◌, [], replicate}
use Rattle.journal_check.proofs.marks.no_marks.Given as goal

abbrev pub invariant-loop-place : goal.invariant-loop-place
invariant-loop-place l = l.table.items ≡ replicate l._place []
