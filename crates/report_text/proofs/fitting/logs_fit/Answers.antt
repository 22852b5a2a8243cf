use Rattle.std.proofs.Common.{[], All, arith, subst}
use Rattle.std.proofs.lemmas.List.{take_all}
use Rattle.std.proofs.lemmas.List.Elements.{All-more}
use Rattle.event_journal.specs.Logs.{log_of}
use Rattle.report_text.specs.OneReport.{AreWords}
use Rattle.report_text.proofs.fitting.logs_fit.Goals as goal

pub loop-tile-preserved : goal.loop-tile-preserved
loop-tile-preserved c =
    let tile = c.loop-tile.tile in
    let low = c.tiles-tile-end.ensures.value in
    All-more AreWords c.args.journal.now tile (log_of tile [] []) (omega (arith, low, c.loop-tile-test.true)) c.loop-tile.invariant (subst AreWords c.log.ensures c.log_fits.ensures)

pub returns : goal.returns
returns c =
    let low = c.tiles-tile-end.ensures.value in
    subst (All AreWords) (take_all c.loop-tile.tile c.args.journal.now (omega (arith, low, c.loop-tile-test.false))) c.loop-tile.invariant
