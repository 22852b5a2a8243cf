use Rattle.std.proofs.Common.{All, subst}
use Rattle.std.proofs.lemmas.List.{take_all}
use Rattle.std.proofs.lemmas.List.Elements.{All-more}
use Rattle.report_text.specs.OneReport.{AreRecordWords}
use Rattle.report_text.proofs.fitting.records_fit.Goals as goal

pub loop-event-preserved : goal.loop-event-preserved
loop-event-preserved c = All-more AreRecordWords c.args.records.now c.loop-event.event-index _ c.loop-event-test.true c.loop-event.invariant c.event_fits.ensures

pub returns : goal.returns
returns c = subst (λ xs. All AreRecordWords xs) (take_all c.loop-event.event-index c.args.records.now c.loop-event-test.false) c.loop-event.invariant
