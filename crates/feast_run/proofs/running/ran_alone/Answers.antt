use Rattle.std.proofs.Common.{◌∙◌, ap}
use Rattle.chain_run.proofs.Legs.{lone_events}
use Rattle.feast_run.proofs.Runs.{alone_reports, events_live, is_alone, ready_valid}
use Rattle.feast_run.specs.Answer.{grid_after}
use Rattle.feast_run.specs.Values.{elements_value, ready_value}
use Rattle.report_text.specs.Report.{report}
use Rattle.world_runs.specs.OneTile.{events_of}
use Rattle.world_text.specs.Values.{world_value}
use Rattle.feast_run.proofs.running.ran_alone.Goals as goal

pub grid_after-requires-clause-live : goal.grid_after-requires-clause-live
grid_after-requires-clause-live g c =
    let w = world_value c.args.ready.world in
    let valid = ready_valid c.args.ready c.requires.ready in
    let all = lone_events c.in_ok-journal.journal c.log.result.now (events_of w.plane w.plan) c.records.result.now c.in_ok-journal.ensures.logs c.log.ensures c.records.ensures in
    events_live w valid c.requires.alone c.records.result.now all

pub returns-clause-text : goal.returns-clause-text
returns-clause-text g c =
    let w = world_value c.args.ready.world in
    let names = (elements_value c.args.ready.elements).names in
    let all = lone_events c.in_ok-journal.journal c.log.result.now (events_of w.plane w.plan) c.records.result.now c.in_ok-journal.ensures.logs c.log.ensures c.records.ensures in
    let grid = c.in_ok-grid.ensures.grid ∙ ap (grid_after (ready_value c.args.ready)) all in
    (λ i. report names (grid i) (c.in_ok-journal.ensures.records i) (c.in_ok-journal.ensures.abandoned i))

pub returns-clause-reports : goal.returns-clause-reports
returns-clause-reports g c =
    let w = world_value c.args.ready.world in
    let valid = ready_valid c.args.ready c.requires.ready in
    alone_reports (ready_value c.args.ready) _ (is_alone w valid c.requires.alone) (returns-clause-text g c)
