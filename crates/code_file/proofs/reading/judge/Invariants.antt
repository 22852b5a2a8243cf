use Rattle.std.proofs.Common.{◌≡◌, [], length}
use Rattle.code_file.specs.Form.{elements}
use Rattle.code_file.specs.Judging.{right_elements}
use Rattle.code_file.proofs.reading.judge.Given as goal

abbrev pub invariant-loop-draft : goal.invariant-loop-draft
invariant-loop-draft l = record {
  same : length l.names.items ≡ length l.codes.items;
  left : right_elements (elements l.names.items l.codes.items) l.draft-iterator.rest.items ≡ right_elements [] l.fn.drafts.items;
}
