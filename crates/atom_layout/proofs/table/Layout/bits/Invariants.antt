use Rattle.std.proofs.Common.{◌≡◌, sum, take}
use Rattle.atom_layout.proofs.table.Layout.bits.Given as goal

abbrev pub invariant-loop-width : goal.invariant-loop-width
invariant-loop-width l = l.bits ≡ sum (take l.width-index l.width-items)
