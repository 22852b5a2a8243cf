use Rattle.std.proofs.Common.{take}
use Rattle.journal_check.specs.Marks.{AreMarks}
use Rattle.journal_check.proofs.marks.marks_of.Given as goal

abbrev pub invariant-loop-k : goal.invariant-loop-k
invariant-loop-k l = AreMarks l.map (take l.k l.records) l.table.items
