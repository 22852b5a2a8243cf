use Rattle.feast_run.proofs.Runs.{is_alone, ready_valid}
use Rattle.world_text.specs.Values.{world_value}
use Rattle.feast_run.proofs.running.journal_of.Goals as goal

pub journal-requires-clause-alone : goal.journal-requires-clause-alone
journal-requires-clause-alone g c = λ lives bounds.
    let w = world_value c.args.ready.now.world in
    is_alone w (ready_valid c.args.ready.now c.requires.ready) c.requires.alone
