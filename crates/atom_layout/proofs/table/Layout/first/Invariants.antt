use Rattle.std.proofs.Common.{◌≡◌, sum, take}
use Rattle.atom_layout.proofs.table.Layout.first.Given as goal

abbrev pub invariant-loop-width : goal.invariant-loop-width
invariant-loop-width l = l.bit ≡ sum (take l.width-index l.width-items)
