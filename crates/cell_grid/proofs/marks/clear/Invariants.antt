use Rattle.cell_grid.proofs.Cleared.{IsClearing}
use Rattle.cell_grid.proofs.marks.clear.Given as goal

abbrev pub invariant-loop-i : goal.invariant-loop-i
invariant-loop-i l = IsClearing l.fn.marks l.width l.area l.i l.marks
