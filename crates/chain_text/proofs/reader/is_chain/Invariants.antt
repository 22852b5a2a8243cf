use Rattle.std.proofs.Common.{◌≡◌, length}
use Rattle.text_lines.specs.Lines.{lines}
use Rattle.chain_text.specs.Reading.{begins_chain}
use Rattle.chain_text.proofs.reader.is_chain.Given as goal

abbrev pub invariant-loop-text : goal.invariant-loop-text
invariant-loop-text l = begins_chain (lines l.left) ≡ begins_chain (lines l.bytes)

abbrev pub decreases-loop-text : goal.decreases-loop-text
decreases-loop-text l = length l.left
