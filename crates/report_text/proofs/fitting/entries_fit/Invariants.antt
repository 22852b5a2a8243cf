use Rattle.std.proofs.Common.{All, take}
use Rattle.report_text.specs.OneReport.{AreAbandonedWords}
use Rattle.report_text.proofs.fitting.entries_fit.Given as goal

abbrev pub invariant-loop-entry : goal.invariant-loop-entry
invariant-loop-entry l = All AreAbandonedWords (take l.entry-index l.entries)
