use Rattle.event_journal.specs.Logs.{abandoned_in, records_in}
use Rattle.feast_run.proofs.Machines.{is_run, left_named, machine_grid, machine_logs}
use Rattle.feast_run.proofs.Runs.{ready_known}
use Rattle.feast_run.specs.Values.{ready_value}
use Rattle.report_text.specs.Report.{report}
use Rattle.feast_run.proofs.stepping.ran_stepped.Goals as goal

pub returns-clause-run : goal.returns-clause-run
returns-clause-run c = is_run (ready_value c.args.ready) c.in_ok-outcome.outcome c.in_ok-outcome.ensures

pub returns-clause-text : goal.returns-clause-text
returns-clause-text c =
    let r = ready_value c.args.ready in
    let o = c.in_ok-outcome.outcome in
    let h = c.in_ok-outcome.ensures in
    (λ i. report r.names (machine_grid r o h i) (records_in (machine_logs r o h i)) (abandoned_in (machine_logs r o h i)))

pub returns-clause-writable : goal.returns-clause-writable
returns-clause-writable c =
    let o = c.in_ok-outcome.outcome in
    left_named (ready_value c.args.ready) o.grid (records_in o.journal) c.in_ok-outcome.ensures.in_order.serial.replayed c.requires.brings (ready_known c.args.ready c.requires)
