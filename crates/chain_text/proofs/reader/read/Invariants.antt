use Rattle.std.proofs.Common.{◌≡◌, ◌+◌, ◌≤◌, length}
use Rattle.text_lines.specs.Lines.{lines}
use Rattle.chain_text.specs.Drafts.{IsChainDraft}
use Rattle.chain_text.specs.Reading.{read_text, read_lines}
use Rattle.chain_text.specs.Values.{draft_value}
use Rattle.chain_text.proofs.reader.read.Given as goal

abbrev pub invariant-loop-text : goal.invariant-loop-text
invariant-loop-text l = record {
  rest : read_lines l.n (draft_value l.draft) (lines l.left) ≡ read_text l.bytes;
  shape : IsChainDraft (draft_value l.draft);
  room : l.n + length l.left ≤ length l.bytes + 1;
}

abbrev pub decreases-loop-text : goal.decreases-loop-text
decreases-loop-text l = length l.left
