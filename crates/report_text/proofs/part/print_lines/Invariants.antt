use Rattle.std.proofs.Common.{◌≡◌, ◌++◌, length}
use Rattle.event_journal.specs.Walks.{rest_of}
use Rattle.report_text.specs.Details.{rest_text}
use Rattle.report_text.proofs.part.print_lines.Given as goal

abbrev pub invariant-loop-detail : goal.invariant-loop-detail
invariant-loop-detail l = l.out.items ++ rest_text l.detail l.walk ≡ l.fn.out.items ++ rest_text l.detail l.fn.walk

abbrev pub decreases-loop-detail : goal.decreases-loop-detail
decreases-loop-detail l = length (rest_of l.walk)
