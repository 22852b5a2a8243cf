use Rattle.std.proofs.Common.{◌≡◌, length}
use Rattle.cases_order.specs.Driven.{AreMade}
use Rattle.event_journal.specs.Serial.{course}
use Rattle.cases_order.proofs.driving.tiles.Given as goal

abbrev pub invariant-loop-tile : goal.invariant-loop-tile
invariant-loop-tile g l = record {
  count : length l.tiles.items ≡ l.tile;
  fresh : AreMade g.B.Behave.after (course l.map l.plan (g.B.Behave.after l.behave) l.start) l.tiles.items;
}
