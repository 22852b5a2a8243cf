use Rattle.std.proofs.Common.{◌≡◌, ◌++◌, length}
use Rattle.report_text.specs.Tables.{lists_of}
use Rattle.report_text.specs.Widened.{widened_text}
use Rattle.report_text.proofs.widening.widened_by.Given as goal

abbrev pub invariant-loop-text : goal.invariant-loop-text
invariant-loop-text l = l.out.items ++ widened_text l.map (lists_of l.lists) l.left ≡ widened_text l.map (lists_of l.lists) l.bytes

abbrev pub decreases-loop-text : goal.decreases-loop-text
decreases-loop-text l = length l.left
