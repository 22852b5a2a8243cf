use Rattle.std.proofs.Common.{List, ◌≡◌, ◌+◌, ◌<◌, ◌≤◌, length}
use Rattle.text_lines.specs.Lines.{ended_lines}
use Rattle.draw_stream.specs.declared.attempt.Attempt.{Attempt}
use Rattle.tile_map.specs.Plane.{tiles_of}
use Rattle.report_text.specs.Reading.{read_report, read_lines}
use Rattle.report_text.specs.Cursors.{AllServe, said_value}
use Rattle.report_text.proofs.reader.read_lines.Given as goal

abbrev pub invariant-loop-text : goal.invariant-loop-text
invariant-loop-text l = record {
  rest : (lists : List (List Attempt)) → AllServe l.fn.cursors.items lists → read_lines l.map lists l.n (said_value l.reading) (ended_lines l.left) ≡ read_report l.map lists l.bytes;
  serve : (lists : List (List Attempt)) → AllServe l.fn.cursors.items lists → AllServe l.reading.cursors.items lists;
  many : length l.reading.cursors.items ≡ tiles_of l.map;
  room : l.n + length l.left ≤ length l.bytes + 1;
  some : 1 ≤ l.n;
  few : length l.reading.journal.items + length l.reading.gone.items < l.n;
}

abbrev pub decreases-loop-text : goal.decreases-loop-text
decreases-loop-text l = length l.left
