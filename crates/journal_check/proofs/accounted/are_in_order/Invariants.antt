use Rattle.std.specs.List.{AllAdjacentBelow}
use Rattle.cell_grid.specs.Records.{Precedes}
use Rattle.journal_check.proofs.accounted.are_in_order.Given as goal

abbrev pub invariant-loop-i : goal.invariant-loop-i
invariant-loop-i l = AllAdjacentBelow Precedes l.records l.i
