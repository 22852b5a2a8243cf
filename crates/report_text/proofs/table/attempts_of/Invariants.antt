use Rattle.std.proofs.Common.{◌≡◌, ◌++◌, length}
use Rattle.draw_stream.specs.Plans.{attempts}
use Rattle.report_text.proofs.table.attempts_of.Given as goal

abbrev pub invariant-loop-attempt : goal.invariant-loop-attempt
invariant-loop-attempt l = l.list.items ++ l.stream ≡ attempts l.plan l.tile

abbrev pub decreases-loop-attempt : goal.decreases-loop-attempt
decreases-loop-attempt l = length l.stream
