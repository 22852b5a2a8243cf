use Rattle.std.proofs.Common.{inr}
use Rattle.feast_run.proofs.Runs.{ready_valid}
use Rattle.feast_run.proofs.auditing.audit_loaded.Goals as goal

pub read_loaded-requires-clause-world : goal.read_loaded-requires-clause-world
read_loaded-requires-clause-world c = ready_valid c.args.ready.now c.requires.ready

pub returns-clause-tells : goal.returns-clause-tells
returns-clause-tells c =
    inr (record {
      value = c.in_ok-journal.journal;
      passed = c.in_ok-journal.ensures;
      rest = c.in_ok-text.ensures;
    })
