use Rattle.feast_run.proofs.Runs.{journal_halts}
use Rattle.report_text.specs.Reading.{fault_of}
use Rattle.world_text.specs.Values.{world_value}
use Rattle.feast_run.proofs.journals.read_loaded.Goals as goal

pub returns-in-Err : goal.returns-in-Err
returns-in-Err c = journal_halts c.args.word.now (world_value c.args.world.now) c.args.bytes.now (fault_of c.in-Err.fault) c.journal_halt.result c.in-Err.ensures c.journal_halt.ensures
