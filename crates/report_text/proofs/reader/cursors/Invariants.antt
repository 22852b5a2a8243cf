use Rattle.std.proofs.Common.{ℕ, ◌≡◌, ◌<◌, None, length, replicate, get_or, []}
use Rattle.report_text.specs.Cursors.{Serves, lasts_of}
use Rattle.report_text.specs.declared.cursors.LogCursor.{LogCursor}
use Rattle.report_text.proofs.reader.cursors.Given as goal

abbrev pub invariant-loop-tile : goal.invariant-loop-tile
invariant-loop-tile l = record {
  many : length l.cursors.items ≡ l.tile;
  fresh : lasts_of l.cursors.items ≡ replicate l.tile None;
  serve : (t : ℕ) (d : LogCursor) → t < l.tile → Serves (get_or l.cursors.items t d) (get_or l.plan.lists t []);
}
