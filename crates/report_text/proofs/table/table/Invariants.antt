use Rattle.std.proofs.Common.{◌≡◌, length, take}
use Rattle.report_text.specs.Tables.{lists_of}
use Rattle.report_text.proofs.table.table.Given as goal

abbrev pub invariant-loop-tile : goal.invariant-loop-tile
invariant-loop-tile l = record {
  many : length l.lists.items ≡ l.tile;
  done : lists_of l.lists.items ≡ take l.tile l.plan.lists;
}
