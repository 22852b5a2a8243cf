use Rattle.std.proofs.Common.{All, take}
use Rattle.report_text.specs.OneReport.{AreWords}
use Rattle.report_text.proofs.fitting.logs_fit.Given as goal

abbrev pub invariant-loop-tile : goal.invariant-loop-tile
invariant-loop-tile l = All AreWords (take l.tile l.journal)
