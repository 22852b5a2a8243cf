use Rattle.event_journal.specs.Logs.{records_in}
use Rattle.feast_run.proofs.Machines.{left_named, threaded_reports}
use Rattle.feast_run.proofs.Runs.{ready_known}
use Rattle.feast_run.specs.Values.{ready_value}
use Rattle.feast_run.proofs.running.ran_together.Goals as goal

pub returns-clause-reports : goal.returns-clause-reports
returns-clause-reports g c = threaded_reports (ready_value c.args.ready) c.in_ok-outcome.outcome c.in_ok-outcome.ensures c.requires.several

pub returns-clause-writable : goal.returns-clause-writable
returns-clause-writable g c =
    let o = c.in_ok-outcome.outcome in
    left_named (ready_value c.args.ready) o.grid (records_in o.journal) c.in_ok-outcome.ensures.serial.replayed c.requires.ready.brings (ready_known c.args.ready c.requires.ready)
