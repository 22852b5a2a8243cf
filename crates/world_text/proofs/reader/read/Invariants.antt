use Rattle.std.proofs.Common.{◌≡◌, ◌+◌, ◌≤◌, length}
use Rattle.text_lines.specs.Lines.{lines}
use Rattle.world_text.specs.Drafts.{IsDraft}
use Rattle.world_text.specs.Reading.{read_text, read_lines}
use Rattle.world_text.specs.Values.{draft_value}
use Rattle.world_text.proofs.reader.read.Given as goal

abbrev pub invariant-loop-text : goal.invariant-loop-text
invariant-loop-text l = record {
  rest : read_lines l.n (draft_value l.draft) (lines l.left) ≡ read_text l.bytes;
  shape : IsDraft (draft_value l.draft);
  room : l.n + length l.left ≤ length l.bytes + 1;
}

abbrev pub decreases-loop-text : goal.decreases-loop-text
decreases-loop-text l = length l.left
