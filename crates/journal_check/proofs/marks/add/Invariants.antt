use Rattle.std.proofs.Common.{◌≡◌, length, take}
use Rattle.journal_check.specs.Marks.{AddsMark, is_list_of}
use Rattle.journal_check.proofs.marks.add.Given as goal

abbrev pub invariant-loop-i : goal.invariant-loop-i
invariant-loop-i l = record {
  many : length l.table.items ≡ length l.fn.table.items;
  adds : AddsMark l.fn.table.items (is_list_of (take l.i l.needs) l.tiles l.tile) l.mark l.table.items;
}
