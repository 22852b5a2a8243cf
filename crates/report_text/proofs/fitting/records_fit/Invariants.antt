use Rattle.std.proofs.Common.{All, take}
use Rattle.report_text.specs.OneReport.{AreRecordWords}
use Rattle.report_text.proofs.fitting.records_fit.Given as goal

abbrev pub invariant-loop-event : goal.invariant-loop-event
invariant-loop-event l = All AreRecordWords (take l.event-index l.records)
